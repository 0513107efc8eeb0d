pub mod Members
pub mod Exclude
pub mod WorkspaceTree
pub mod PrivateCrates
