pub mod Lists
pub mod Budget
pub mod Opened
pub mod Ending
