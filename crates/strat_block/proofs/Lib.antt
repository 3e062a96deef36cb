pub mod OrderLemmas
pub mod OffsetLemmas
pub mod ChainLemmas
pub mod BlockFacts
pub mod SearchLemmas
pub mod WriterLemmas
