pub mod Views
pub mod Grouping
pub mod Emitting
