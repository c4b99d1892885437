pub mod Signs
pub mod ShapeUnit
pub mod CodeUnit
pub mod TestUnit
pub mod TableUnit
pub mod Samples
