pub mod BlockLemmas
pub mod LendLemmas
pub mod ValueLemmas
pub mod FilledLemmas
pub mod ChunkLemmas
pub mod PushLemmas
pub mod PoolLemmas
