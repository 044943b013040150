pub mod Repeats
pub mod Rests
pub mod Noted
pub mod Refused
