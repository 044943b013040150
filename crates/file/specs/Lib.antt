pub mod Form
pub mod Texts
pub mod Rows
pub mod Files
