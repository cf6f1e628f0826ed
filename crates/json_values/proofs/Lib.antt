pub mod Members
pub mod InOrder
pub mod Collected
pub mod Turns
