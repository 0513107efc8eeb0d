pub mod RangeLemmas
pub mod TrialLemmas
pub mod UseLemmas
pub mod FailureLemmas
pub mod SearchLemmas
