pub mod Digits
pub mod ReadNumbers
pub mod ReadSizes
pub mod Requested
pub mod Splits
