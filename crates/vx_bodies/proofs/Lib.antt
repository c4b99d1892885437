pub mod Complete
pub mod Sound
mod Fresh
mod Counts
mod Finish
mod Ends
mod Scopes
mod Index
mod FieldNames
