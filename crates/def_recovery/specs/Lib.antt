pub mod Asked
pub mod Bad
pub mod Disks
pub mod Head
pub mod Opened
pub mod Opening
pub mod Passed
