pub mod Caret
pub mod Excerpt
pub mod Position
