pub mod Checking
pub mod Densities
pub mod Lines
pub mod Reporting
pub mod Runs
