pub mod SetLemmas
pub mod MeetLemmas
pub mod ShowLemmas
pub mod DemandLemmas
pub mod OrderLemmas
pub mod SampleLemmas
pub mod CoverLemmas
pub mod LeanLemmas
