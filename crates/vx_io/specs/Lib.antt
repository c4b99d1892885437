pub mod Calls
pub mod Faults
pub mod Memory
pub mod Reader
pub mod Sink
pub mod Source
pub mod Writer
