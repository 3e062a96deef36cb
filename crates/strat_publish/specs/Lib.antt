pub mod Publishing
pub mod Promoting
pub mod Settling
pub mod Counting
pub mod Outcomes
pub mod Advancing
