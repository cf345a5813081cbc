pub mod Objects
pub mod OpenDoors
pub mod Received
