pub mod Rows
pub mod Sheets
pub mod Tails
pub mod Meaning
pub mod Left
pub mod Each
