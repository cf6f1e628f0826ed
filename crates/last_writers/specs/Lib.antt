pub mod OutputClaims
pub mod OutputFit
pub mod Fitting
pub mod Outputs
