pub mod Splits
pub mod Parts
pub mod Families
pub mod Joint
