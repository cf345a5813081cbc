pub mod Lists
pub mod RuleLemmas
pub mod Seen
pub mod SampleLemmas
