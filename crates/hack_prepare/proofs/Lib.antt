mod CountLemmas
mod StepLemmas
mod MemberLemmas
pub mod RootLemmas
pub mod HeldLemmas
mod FaultLemmas
pub mod FailedLemmas
mod EditLemmas
mod WriteLemmas
mod OrderLemmas
