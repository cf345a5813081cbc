pub mod Fresh
pub mod Pages
pub mod Told
pub mod Says
pub mod Read
