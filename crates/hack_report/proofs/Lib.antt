pub mod ExplainLemmas
pub mod FoundLemmas
pub mod ReportLemmas
pub mod StrengthLemmas
