pub mod GoLemmas
pub mod NameLemmas
