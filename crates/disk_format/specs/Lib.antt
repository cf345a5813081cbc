pub mod Shape
pub mod Why
pub mod Table
pub mod VersionOne
pub mod Image
