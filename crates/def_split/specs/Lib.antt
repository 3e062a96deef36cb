pub mod Groups
pub mod Plan
pub mod Planned
pub mod Splits
