pub mod BadDisks
pub mod Disks
pub mod Drops
pub mod Formats
pub mod Openings
pub mod States
