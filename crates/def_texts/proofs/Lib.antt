pub mod ReportLemmas
pub mod TextLemmas
pub mod WorkloadLemmas
