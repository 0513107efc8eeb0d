pub mod Internal
pub mod LaneCommands
