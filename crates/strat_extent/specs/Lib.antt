pub mod Blocks
pub mod Change
pub mod Fields
pub mod Gap
