pub mod Phases
pub mod Fields
pub mod CallLaws
pub mod CallAgain
pub mod ClientLaws
pub mod ScriptFound
pub mod ScriptAgain
pub mod Parsing
