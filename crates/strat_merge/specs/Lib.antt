pub mod Runs
pub mod Bracket
pub mod Reading
pub mod Gathered
pub mod MergerFields
pub mod Keeping
pub mod Thinning
