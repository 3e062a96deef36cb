pub mod OrderLemmas
pub mod BracketLemmas
pub mod PassLemmas
pub mod GatherLemmas
pub mod GroupLemmas
pub mod TurnLemmas
pub mod KeepingLemmas
pub mod ThinningLemmas
