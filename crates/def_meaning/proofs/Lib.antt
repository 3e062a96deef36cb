pub mod RowLemmas
pub mod StateTableLemmas
pub mod TableOverLemmas
