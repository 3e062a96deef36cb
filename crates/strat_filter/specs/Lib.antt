pub mod Bits
pub mod FilterFields
pub mod Keys
