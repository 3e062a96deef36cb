pub mod FramingLemmas
pub mod PageLemmas
pub mod RunLemmas
pub mod ExportLemmas
pub mod DenseLemmas
pub mod ThirdLemmas
