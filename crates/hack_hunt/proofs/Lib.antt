mod OrderLemmas
mod RuleLemmas
mod SetLemmas
mod ToldLemmas
pub mod HuntLemmas
pub mod SpotLemmas
