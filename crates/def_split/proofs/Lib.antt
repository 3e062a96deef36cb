pub mod ListLemmas
pub mod LiveSetLemmas
pub mod PlannedLemmas
pub mod GroupedLemmas
pub mod CountedLemmas
pub mod SplitLemmas
pub mod LawLemmas
pub mod TwoPartsLemmas
