pub mod Lanes
pub mod Views
pub mod JoinedScenes
