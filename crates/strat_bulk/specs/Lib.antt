pub mod Framing
pub mod Density
pub mod Ending
pub mod Runs
