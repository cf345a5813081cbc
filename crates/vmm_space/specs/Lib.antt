pub mod Regions
pub mod Spaces
pub mod Laws
