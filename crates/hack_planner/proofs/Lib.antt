pub mod Growth
pub mod CandidateLemmas
mod PackageRuleLemmas
mod TableLemmas
pub mod KindLemmas
pub mod PackageLemmas
pub mod DepthLemmas
pub mod RowLemmas
pub mod SampleLemmas
pub mod LeastLemmas
mod UseLemmas
pub mod ChosenLemmas
pub mod NoteLemmas
mod FaultLemmas
mod PlanLemmas
mod PowersetLemmas
mod CauseLemmas
mod MadeLemmas
pub mod Performing
mod InputLemmas
mod OnceLemmas
mod NeverLemmas
mod PlanSampleLemmas
mod LeastPlaceLemmas
mod PatternCountLemmas
mod LookLemmas
