pub mod ReadyLemmas
pub mod GoingLemmas
