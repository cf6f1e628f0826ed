pub mod Powers
pub mod ProductLemmas
pub mod MeanLemmas
pub mod Steps
pub mod Members
pub mod CoverLemmas
pub mod WeightLemmas
pub mod ProjectionLemmas
