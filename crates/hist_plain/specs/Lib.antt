pub mod Event
pub mod File
pub mod Plain
pub mod PlainView
pub mod History
