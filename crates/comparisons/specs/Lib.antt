pub mod Outcomes
pub mod Tables
