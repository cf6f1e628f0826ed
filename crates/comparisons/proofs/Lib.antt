pub mod Zipped
