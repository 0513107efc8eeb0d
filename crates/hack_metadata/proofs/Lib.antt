mod AskLemmas
mod AskWays
mod FeatureLemmas
mod IdLemmas
pub mod KnownLemmas
mod NodeLemmas
mod RuleLemmas
mod WholeLemmas
mod SpoiltLemmas
mod FailedLemmas
