pub mod Logs
pub mod Parts
pub mod Views
pub mod DoorLaws
