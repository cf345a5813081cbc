pub mod Seen
pub mod Pages
