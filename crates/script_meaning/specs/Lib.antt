pub mod Stack
pub mod Log
pub mod Plan
pub mod Fits
pub mod Doors
