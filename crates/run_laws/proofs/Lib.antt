pub mod SoundLaws
pub mod ImageLaws
pub mod NumberLaws
pub mod SittingLaws
pub mod LastingLaws
