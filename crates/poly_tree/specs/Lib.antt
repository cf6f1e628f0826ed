pub mod Expansion
pub mod Poly
pub mod Stored
pub mod Powers
pub mod Printed
pub mod Terms
pub mod Top
pub mod Tree
