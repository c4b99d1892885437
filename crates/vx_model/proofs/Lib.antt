pub mod Orders
pub mod Walking
pub mod Heights
pub mod Bases
pub mod Holding
pub mod Choices
pub mod Lowest
pub mod Cones
pub mod Places
pub mod Predicates
pub mod Within
pub mod Grows
pub mod Further
pub mod Sound
pub mod Things
pub mod Bodies
pub mod Counting
pub mod Deeds
pub mod MethodTexts
pub mod NeverStuck
pub mod Spellings
mod Rows
mod SmallTrees
mod MeaningRows
mod ClosureRows
