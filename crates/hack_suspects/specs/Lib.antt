pub mod Suspects
pub mod Faults
pub mod InternalWalks
pub mod Counts
pub mod Uses
