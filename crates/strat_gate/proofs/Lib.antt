pub mod LayingLemmas
pub mod RaisingLemmas
pub mod RangeLemmas
