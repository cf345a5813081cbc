pub mod PartLaws
pub mod PhaseLaws
pub mod StartLaws
pub mod ClosingLaws
pub mod Crossing
