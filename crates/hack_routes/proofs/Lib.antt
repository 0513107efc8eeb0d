pub mod NameSetLemmas
pub mod ReachLemmas
pub mod PlaceLemmas
pub mod LinkLemmas
pub mod MarkLemmas
