pub mod Trials
pub mod Searches
pub mod Internal
pub mod JoinedTrials
