pub mod Standing
pub mod Differences
