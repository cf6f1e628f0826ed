pub mod Turns
pub mod FirstTurns
pub mod SourceTrees
pub mod Products
pub mod Projective
pub mod Shape
pub mod Exponent
