pub mod Puts
pub mod Views
