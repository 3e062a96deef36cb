pub mod TotalLemmas
pub mod DensityLemmas
pub mod FractionLemmas
pub mod RunLemmas
pub mod LineLemmas
pub mod ReportingLemmas
pub mod CheckingLemmas
