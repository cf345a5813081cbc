pub mod BuiltLaws
pub mod WayLaws
pub mod NumberLaws
