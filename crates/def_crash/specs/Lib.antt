pub mod Faults
pub mod Image
pub mod Moments
pub mod Trail
pub mod Blocks
