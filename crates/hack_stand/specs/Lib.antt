pub mod Calls
pub mod Stands
pub mod Words
pub mod Internal
