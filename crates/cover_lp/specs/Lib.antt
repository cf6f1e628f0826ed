pub mod Cover
pub mod Search
