pub mod Items
pub mod Unread
