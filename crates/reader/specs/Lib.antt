pub mod Holding
pub mod Given
