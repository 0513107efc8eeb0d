pub mod Shrinks
pub mod One
pub mod GroupLemmas
pub mod TargetLemmas
