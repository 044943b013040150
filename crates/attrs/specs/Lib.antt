pub mod First
pub mod Wanted
