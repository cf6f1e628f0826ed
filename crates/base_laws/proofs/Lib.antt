pub mod Ring
pub mod Lists
pub mod Ranges
