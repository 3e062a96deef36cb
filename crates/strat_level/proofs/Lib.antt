pub mod PlaceLemmas
pub mod RangeLemmas
pub mod ItemLemmas
pub mod PutLemmas
pub mod TargetLemmas
pub mod IndexLemmas
pub mod LevelsLemmas
