pub mod Answers
pub mod Shapes
pub mod Shown
pub mod Standing
pub mod Candidates
pub mod Plain
pub mod Origins
pub mod Growth
