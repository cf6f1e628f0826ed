pub mod Turns
pub mod Runs
pub mod Values
pub mod Rooms
pub mod Cells
pub mod Known
pub mod Found
pub mod Builds
