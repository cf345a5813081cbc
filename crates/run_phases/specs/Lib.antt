pub mod Workers
pub mod Phases
pub mod Parts
pub mod Closing
