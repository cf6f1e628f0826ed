pub mod MovesTaken
pub mod StoredVertices
