pub mod CountLemmas
pub mod RunLemmas
pub mod ChangeLemmas
pub mod TakeLemmas
pub mod BlockLemmas
pub mod AmongLemmas
