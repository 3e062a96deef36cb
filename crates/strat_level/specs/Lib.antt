pub mod Places
pub mod Memtable
pub mod ViewFields
pub mod ZeroFields
pub mod Target
pub mod Levels
pub mod Index
pub mod LevelFields
