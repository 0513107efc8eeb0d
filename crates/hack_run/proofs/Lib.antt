mod BackLemmas
pub mod CallLemmas
pub mod ChangeLemmas
mod GatherLemmas
mod LoadingLemmas
pub mod ReadingLemmas
mod LaneLemmas
pub mod LastingLemmas
mod ReasonLemmas
mod RefusalLemmas
mod RunLemmas
mod StartedLemmas
mod ErrorLemmas
mod FindingLemmas
mod ConclusionLemmas
mod BrokenLemmas
mod EndedLemmas
mod ToldLemmas
mod ShownLemmas
mod ShownLists
mod ShownCalls
pub mod TraceLemmas
