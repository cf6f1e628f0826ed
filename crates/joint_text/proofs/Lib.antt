pub mod ReadBack
pub mod Limits
pub mod Plain
