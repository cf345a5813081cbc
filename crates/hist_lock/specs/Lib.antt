pub mod Ranges
pub mod Rule
pub mod Steps
pub mod Known
pub mod Sample
