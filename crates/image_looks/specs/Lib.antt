pub mod Found
pub mod Disks
