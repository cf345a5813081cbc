pub mod OwnNumbers
pub mod Written
pub mod Read
