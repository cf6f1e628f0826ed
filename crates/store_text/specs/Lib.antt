pub mod Outputs
pub mod Stores
pub mod Read
pub mod Texts
pub mod OneReading
