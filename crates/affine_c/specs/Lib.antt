pub mod Text
pub mod Tree
pub mod PrintedWords
pub mod Meaning
pub mod Built
pub mod Laws
pub mod Products
