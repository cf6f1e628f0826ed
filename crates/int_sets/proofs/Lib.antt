pub mod Held
pub mod Linked
pub mod Follows
pub mod Joined
pub mod Rising
pub mod Sorting
pub mod Sums
pub mod Walk
