pub mod Absences
pub mod Lookups
pub mod Moved
pub mod Opened
