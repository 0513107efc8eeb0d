pub mod PatternLemmas
pub mod ChoiceLemmas
pub mod SuspectLemmas
pub mod FaultLemmas
pub mod CountLemmas
pub mod UseLemmas
