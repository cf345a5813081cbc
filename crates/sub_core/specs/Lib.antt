pub mod Whys
pub mod Names
pub mod Forms
pub mod Fields
pub mod Calls
pub mod Received
pub mod Laws
