pub mod Claims
pub mod Limits
