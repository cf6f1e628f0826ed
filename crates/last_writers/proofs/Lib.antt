pub mod LaterWrites
pub mod OutputSound
pub mod OutputPieces
pub mod FittingOutputs
