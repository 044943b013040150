pub mod Case
pub mod Eight
pub mod Words
pub mod Refused
pub mod Matched
pub mod Worked
