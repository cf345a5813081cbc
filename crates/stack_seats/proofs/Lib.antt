pub mod Lists
pub mod ShapeLaws
pub mod NameLaws
