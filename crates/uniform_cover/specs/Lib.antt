pub mod Greatest
pub mod Products
pub mod Mean
pub mod Cover
pub mod Projection
