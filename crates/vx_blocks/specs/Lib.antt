pub mod Block
pub mod Blocks
pub mod Runs
pub mod Search
