pub mod View
pub mod Puts
