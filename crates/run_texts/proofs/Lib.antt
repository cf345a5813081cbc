pub mod OpsCauses
pub mod OwnNumbers
pub mod Missing
pub mod SoFar
pub mod GeneratedLaws
