pub mod Deframing
pub mod Fields
pub mod Faults
