pub mod Messages
pub mod Rules
