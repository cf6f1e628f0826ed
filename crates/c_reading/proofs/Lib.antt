pub mod Numbered
pub mod Sizes
pub mod Trees
pub mod Turns
