pub mod Calls
pub mod Frames
pub mod Reading
