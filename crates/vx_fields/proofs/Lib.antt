pub mod Lowest
pub mod Onward
