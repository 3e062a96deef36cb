pub mod DiskLemmas
pub mod FollowLemmas
pub mod LogLemmas
pub mod ReceiptLemmas
