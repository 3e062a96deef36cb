pub mod ManifestView
pub mod Pruned
pub mod Reading
pub mod Chains
