pub mod SearchLemmas
pub mod RightLemmas
