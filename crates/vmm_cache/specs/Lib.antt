pub mod Uses
pub mod Bare
pub mod Frames
pub mod Leaf
pub mod Used
