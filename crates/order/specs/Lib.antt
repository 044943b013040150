pub mod Waits
pub mod Following
