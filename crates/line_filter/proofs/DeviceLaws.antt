pub mod Called
pub mod Unread
