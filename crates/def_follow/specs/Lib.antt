pub mod Following
pub mod Keeping
pub mod Log
pub mod Numbered
pub mod OnDisk
