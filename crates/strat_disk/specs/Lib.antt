pub mod Calls
pub mod Fuse
pub mod History
pub mod Medium
pub mod Memory
pub mod PlaneView
pub mod Hidden
