pub mod Powers
pub mod Polynomials
pub mod Table
