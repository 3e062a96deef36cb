pub mod BlockLemmas
pub mod ChainLemmas
pub mod DamageLemmas
pub mod ManifestLemmas
pub mod MarkLemmas
pub mod RegionLemmas
pub mod SuperBlockLemmas
pub mod TwoRegionsLemmas
