pub mod Chains
pub mod Keeps
pub mod Lookups
pub mod Nths
pub mod Rises
pub mod Spans
