pub mod Events
pub mod JoinedCalls
