pub mod ShapeLaws
pub mod AimLaws
pub mod NameLaws
pub mod CallLaws
pub mod PhaseLaws
pub mod ScriptLaws
pub mod DrawLaws
