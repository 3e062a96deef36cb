pub mod Settings
pub mod StateTable
pub mod TableOver
