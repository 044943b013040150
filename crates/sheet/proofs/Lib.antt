pub mod Drafts
pub mod Each
pub mod Pairs
