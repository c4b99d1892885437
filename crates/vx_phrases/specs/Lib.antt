pub mod Laws
pub mod TestMachine
pub mod TestRemains
pub mod Heads
pub mod DeclMachine
pub mod DeclRemains
pub mod KeyMachine
pub mod KeyRemains
