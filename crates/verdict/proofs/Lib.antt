pub mod Found
pub mod Items
pub mod Marks
pub mod Puts
pub mod Views
