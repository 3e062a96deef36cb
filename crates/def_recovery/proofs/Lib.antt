pub mod AskedLemmas
pub mod BadLemmas
pub mod HeadLemmas
pub mod OpeningLemmas
pub mod PassedLemmas
