pub mod Replicas
pub mod Domains
pub mod Routes
pub mod Forms
pub mod Doors
pub mod Calls
pub mod Laws
