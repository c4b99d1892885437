pub mod Gives
pub mod Parts
pub mod Views
pub mod Spelled
pub mod Narrow
