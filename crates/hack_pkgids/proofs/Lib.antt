mod TextLemmas
mod MatchLemmas
mod MatchCases
