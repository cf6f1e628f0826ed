pub mod Limits
pub mod Domain
pub mod Tree
pub mod Printable
pub mod Seen
pub mod Parts
pub mod Draft
pub mod Assumptions
