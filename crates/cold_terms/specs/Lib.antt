pub mod Outline
pub mod Entries
