pub mod Found
pub mod Followed
pub mod Laws
pub mod Members
pub mod Pointless
pub mod Rows
pub mod Systems
