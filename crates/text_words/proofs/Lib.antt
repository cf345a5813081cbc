pub mod Bytes
pub mod NumberLaws
pub mod Splits
pub mod WordLaws
pub mod LineLaws
pub mod Printing
pub mod HexLaws
pub mod Spellings
