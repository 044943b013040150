pub mod Bounded
pub mod Entries
