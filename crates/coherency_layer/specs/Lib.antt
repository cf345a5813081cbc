pub mod Bare
pub mod Node
