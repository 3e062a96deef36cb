pub mod ImageLemmas
pub mod MomentLemmas
pub mod TrailLemmas
pub mod BlockLemmas
