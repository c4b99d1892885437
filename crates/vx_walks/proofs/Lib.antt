pub mod Stepping
pub mod Looping
pub mod Reading
