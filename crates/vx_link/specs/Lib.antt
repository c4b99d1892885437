pub mod Roster
pub mod Link
pub mod Walks
pub mod Spells
