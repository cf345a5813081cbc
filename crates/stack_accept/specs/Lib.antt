pub mod Lines
pub mod Rules
pub mod Plan
pub mod Mount
pub mod Sound
pub mod Unfit
pub mod Check
