pub mod Why
pub mod Names
pub mod Reach
pub mod Verdict
pub mod FitsTogether
pub mod Fit
