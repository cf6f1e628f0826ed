pub mod Labels
pub mod Points
pub mod Held
pub mod Factors
pub mod Stretch
pub mod Cut
pub mod RunLoads
pub mod CompletePebblings
