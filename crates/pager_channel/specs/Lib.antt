pub mod Flags
pub mod Size
pub mod Own
pub mod Named
pub mod Numbers
pub mod Seen
pub mod Frame
pub mod Reading
