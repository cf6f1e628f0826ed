pub mod TwoWords
pub mod Brought
pub mod Held
pub mod Starts
pub mod Loads
