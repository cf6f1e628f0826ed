pub mod Limits
pub mod OneReading
