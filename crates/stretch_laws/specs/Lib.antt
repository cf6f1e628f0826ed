pub mod Reuse
pub mod Runs
pub mod Laws
