pub mod Sound
pub mod Sittings
pub mod Lasting
