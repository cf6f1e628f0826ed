pub mod Domain
pub mod Order
pub mod Inverse
