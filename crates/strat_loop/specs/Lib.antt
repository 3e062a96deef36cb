pub mod Session
pub mod Speech
pub mod Spoken
pub mod World
pub mod Pending
pub mod Progress
pub mod Grouping
