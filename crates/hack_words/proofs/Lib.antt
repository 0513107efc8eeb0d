pub mod AnswerLemmas
mod AskedLemmas
mod ColoringLemmas
mod StartLemmas
