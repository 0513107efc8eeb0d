pub mod Conflicts
pub mod Explained
pub mod Findings
pub mod Remarks
pub mod Reported
