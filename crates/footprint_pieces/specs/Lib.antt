pub mod Pieces
pub mod DisjointClaims
pub mod TargetPairs
