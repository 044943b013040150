pub mod Spots
pub mod Tags
