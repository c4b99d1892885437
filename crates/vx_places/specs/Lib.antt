pub mod Dispatch
pub mod ImageMachine
pub mod Linked
pub mod Emitted
pub mod Tables
pub mod ImageOf
pub mod Reports
