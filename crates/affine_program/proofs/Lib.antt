pub mod Bounds
pub mod Decided
pub mod Domains
pub mod Ordered
