pub mod Turns
pub mod Follows
pub mod Leads
pub mod Walking
pub mod Copying
pub mod Leading
