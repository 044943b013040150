pub mod Kinds
pub mod Rows
pub mod Cards
pub mod Answers
