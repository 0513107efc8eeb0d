pub mod OrderLemmas
pub mod PrivateLemmas
