pub mod Scopes
pub mod Trials
