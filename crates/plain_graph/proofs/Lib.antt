pub mod Placed
pub mod ProgramOrder
