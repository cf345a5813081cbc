pub mod LookLaws
pub mod TellLaws
