pub mod Shape
pub mod Draw
pub mod Aim
pub mod Within
pub mod Access
pub mod Made
pub mod Laws
