pub mod FilesLemmas
pub mod RestoreLemmas
pub mod WriteBackLemmas
pub mod SafeLemmas
pub mod RefusalLemmas
pub mod FailedLemmas
