pub mod Built
pub mod Internal
pub mod InternalView
pub mod JoinedBuilds
