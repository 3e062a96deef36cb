pub mod Causes
pub mod Format
pub mod Following
pub mod Recovering
pub mod ReadingFields
