pub mod FitFound
pub mod Missing
pub mod TreeParts
pub mod ReadTrees
pub mod WalkParts
pub mod FamilyParts
pub mod FormsFit
