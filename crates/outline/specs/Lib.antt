pub mod Entries
pub mod Found
pub mod Sound
pub mod Outlines
