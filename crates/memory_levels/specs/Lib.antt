pub mod Seen
pub mod Towers
pub mod MovesText
pub mod Climbs
pub mod Values
