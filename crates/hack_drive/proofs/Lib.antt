mod HeadlineLemmas
pub mod NoteLemmas
