pub mod Arguments
pub mod Outcomes
pub mod Working
pub mod Headline
pub mod Exporting
