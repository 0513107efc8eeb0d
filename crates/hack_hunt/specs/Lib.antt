pub mod Hunts
pub mod Searched
pub mod SpotView
pub mod Internal
