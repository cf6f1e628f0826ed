pub mod ShortList
pub mod Fingerprint
pub mod Halves
pub mod Chains
