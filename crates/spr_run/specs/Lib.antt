pub mod Ways
pub mod Line
pub mod Asked
