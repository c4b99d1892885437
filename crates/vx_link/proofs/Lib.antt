pub mod Searched
pub mod Listed
pub mod Measured
pub mod Written
pub mod Laid
pub mod Rows
pub mod Bytes
