pub mod FoundLaws
pub mod SpaceLaws
pub mod MeetLaws
