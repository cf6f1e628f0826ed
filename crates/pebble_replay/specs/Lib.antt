pub mod Order
pub mod Played
pub mod Complete
pub mod Uses
pub mod Chains
pub mod Queue
pub mod Turns
pub mod Player
