pub mod Began
pub mod Since
pub mod Reads
