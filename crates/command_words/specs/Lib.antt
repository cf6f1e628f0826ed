pub mod Numbers
pub mod Sizes
pub mod Settings
pub mod Requests
