pub mod Conditions
pub mod Faults
