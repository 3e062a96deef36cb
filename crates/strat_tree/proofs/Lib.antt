pub mod AncestorLemmas
pub mod GrownLemmas
pub mod LivingLemmas
pub mod PreorderLemmas
pub mod PassLemmas
pub mod DepthLemmas
pub mod OrderLemmas
