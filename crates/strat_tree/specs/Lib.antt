pub mod Ancestor
pub mod TreeView
pub mod Jumps
pub mod Living
pub mod TreeFields
pub mod Preorder
pub mod Intervals
pub mod PreorderFields
