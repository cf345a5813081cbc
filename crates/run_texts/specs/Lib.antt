pub mod Known
pub mod Stacks
pub mod Interfaces
pub mod Refusal
pub mod OperationNames
pub mod Order
pub mod Found
pub mod Generated
