pub mod Limits
pub mod Branches
pub mod OneCertificate
pub mod Newline
pub mod Plain
pub mod ReadBack
pub mod ReadTerms
pub mod Texts
