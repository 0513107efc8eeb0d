mod TextLemmas
pub mod ApartLemmas
pub mod RowLemmas
mod NoteLemmas
pub mod SafeLemmas
pub mod FinishLemmas
pub mod RecoverLemmas
mod RemovalLemmas
mod CountLemmas
mod CutLemmas
mod SafeCutLemmas
mod KnownLemmas
mod NearerLemmas
pub mod OnceLemmas
pub mod RefusingLemmas
pub mod FailedLemmas
pub mod KeepingLemmas
mod WayLemmas
