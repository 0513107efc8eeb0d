pub mod CommandLemmas
pub mod LineLemmas
