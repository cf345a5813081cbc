pub mod Sound
pub mod Found
pub mod Named
pub mod Keyed
pub mod Slots
pub mod Entries
pub mod Cut
pub mod Image
