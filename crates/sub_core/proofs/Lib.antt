pub mod Taken
pub mod Receipt
pub mod Objects
pub mod Utf8
