pub mod Turns
pub mod Beside
pub mod JoinedRuns
pub mod Ends
