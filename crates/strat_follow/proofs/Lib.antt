pub mod ReceiptLemmas
pub mod CopyLemmas
pub mod MadeLemmas
pub mod LeadLemmas
pub mod WalkLemmas
pub mod FrameLemmas
pub mod ReadingLemmas
pub mod TurnLemmas
