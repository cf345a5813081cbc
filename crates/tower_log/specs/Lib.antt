pub mod Log
pub mod Notes
pub mod Trail
pub mod Blocks
pub mod BlocksView
pub mod Counters
pub mod Merged
pub mod TrailView
