pub mod KindLaws
pub mod Lists
pub mod TreeLaws
pub mod Kept
pub mod NodeLaws
pub mod MountLaws
pub mod BackLaws
pub mod DiskLaws
pub mod GroundLaws
pub mod NameLaws
pub mod BaseLaws
pub mod StandLaws
pub mod ViaLaws
pub mod DepthLaws
pub mod SoundLaws
mod Rows
