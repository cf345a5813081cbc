pub mod Words
pub mod Writes
mod Traces
mod PartTexts
pub mod NamesWords
pub mod NamesPartLaws
mod Joined
pub mod FrameHeads
