pub mod FreshLaws
pub mod LineLaws
pub mod SaysLaws
pub mod ReadLaws
pub mod FileLaws
