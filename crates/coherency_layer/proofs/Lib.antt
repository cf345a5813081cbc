pub mod Tables
pub mod Asking
pub mod Serving
pub mod TakenPages
