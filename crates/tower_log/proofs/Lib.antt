pub mod BlockLaws
pub mod CounterLaws
pub mod LogLaws
pub mod MergedLaws
pub mod TrailLaws
