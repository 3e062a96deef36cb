pub mod FrameLemmas
pub mod FieldLemmas
pub mod PageLemmas
pub mod CommandLemmas
pub mod ReplyLemmas
