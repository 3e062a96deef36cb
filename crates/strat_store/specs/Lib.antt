pub mod Filtering
pub mod Getting
pub mod Ranging
pub mod Staging
pub mod StoreFields
pub mod Applying
pub mod Cursoring
pub mod Exporting
