pub mod Bytes
pub mod Words
pub mod Compared
pub mod Lines
pub mod Pieces
pub mod Names
pub mod Tokens
pub mod Text
