pub mod Loaded
pub mod Disjoint
pub mod InputVertices
pub mod BranchLoads
pub mod Marks
pub mod Allowed
pub mod WellFormed
