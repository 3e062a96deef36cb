pub mod Examples
pub mod Publications
