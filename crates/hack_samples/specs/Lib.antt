pub mod Sets
pub mod Samples
pub mod Questions
pub mod Order
pub mod InternalDescendingPatterns
pub mod Internal
