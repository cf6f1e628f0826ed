pub mod Scanned
pub mod Split
pub mod Compare
