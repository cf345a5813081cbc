pub mod Listing
pub mod Entries
pub mod Sides
pub mod Taken
pub mod TrailLaws
