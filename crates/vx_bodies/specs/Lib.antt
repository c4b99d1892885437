pub mod Machine
pub mod Remains
pub mod Scopes
