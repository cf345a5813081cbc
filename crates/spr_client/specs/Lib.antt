pub mod Calls
pub mod Lines
pub mod Names
pub mod Serving
pub mod Doors
