pub mod Side
pub mod Shown
pub mod Sent
pub mod Tables
pub mod Granted
pub mod PlacesShown
