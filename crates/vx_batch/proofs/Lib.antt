pub mod Lines
pub mod Reading
pub mod Replies
pub mod Rows
pub mod Steps
