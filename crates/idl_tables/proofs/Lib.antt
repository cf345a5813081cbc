pub mod Once
pub mod Stable
pub mod Operations
pub mod Rule
pub mod Has
pub mod Sharing
pub mod Few
pub mod Numbers
