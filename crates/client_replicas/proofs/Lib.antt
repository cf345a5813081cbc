pub mod NamedLaws
pub mod OpenLaws
pub mod ReceivedLaws
