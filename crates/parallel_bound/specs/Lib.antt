pub mod Merging
pub mod Shares
pub mod Holds
pub mod Widths
pub mod Faults
