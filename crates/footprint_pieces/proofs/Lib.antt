pub mod MovedForms
pub mod SharedVertices
pub mod PairsFound
pub mod PairCounts
pub mod PieceVertices
