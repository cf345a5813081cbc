pub mod Grammar
pub mod Why
pub mod Reading
