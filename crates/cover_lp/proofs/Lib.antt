pub mod Duality
pub mod Search
pub mod Pairs
pub mod Reach
