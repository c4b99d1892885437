pub mod Ungrouped
pub mod Emitted
