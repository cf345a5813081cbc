pub mod KindLaws
pub mod OpenLaws
pub mod ChosenLaws
pub mod HeldLaws
pub mod ReceivedLaws
pub mod FoundLaws
pub mod ViewLaws
pub mod BegunLaws
