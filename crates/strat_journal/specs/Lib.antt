pub mod Buffered
pub mod Records
pub mod Log
pub mod RegionReader
pub mod Laid
