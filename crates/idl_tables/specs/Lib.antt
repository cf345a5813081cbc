pub mod Lines
pub mod Tables
pub mod Rule
pub mod Differ
pub mod Entries
pub mod TableSet
