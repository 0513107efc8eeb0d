pub mod RunLemmas
pub mod OnceLemmas
pub mod FeatureLemmas
pub mod PairLemmas
pub mod TextLeads
pub mod ValueLeads
pub mod PlaceLemmas
pub mod FrontLemmas
