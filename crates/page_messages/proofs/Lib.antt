pub mod NodeSets
pub mod KindLaws
pub mod KeptLaws
pub mod LetterLaws
pub mod MeantLaws
