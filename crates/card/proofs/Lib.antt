pub mod Finds
pub mod Outside
