mod ImageRows
mod TestRows
pub mod Linking
pub mod Emitting
pub mod Picking
pub mod Showing
pub mod Widening
mod SumImage
mod TableRow
