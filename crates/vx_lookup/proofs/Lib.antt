pub mod Tests
pub mod Pairs
pub mod Held
