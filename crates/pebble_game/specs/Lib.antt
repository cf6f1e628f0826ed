pub mod Inputs
pub mod Sets
pub mod Loaded
pub mod Graphs
pub mod Cold
pub mod Branches
pub mod Boards
