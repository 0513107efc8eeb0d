pub mod CountLemmas
pub mod LookLemmas
pub mod LookedLemmas
pub mod FolderLemmas
mod RepositoryLemmas
