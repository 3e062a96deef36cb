pub mod LogLemmas
pub mod MemoryLemmas
pub mod PlaneLemmas
pub mod HiddenLemmas
