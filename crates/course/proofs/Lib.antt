pub mod Lists
pub mod Standing
pub mod Waits
pub mod Turns
pub mod Waited
pub mod Judging
pub mod Taking
