pub mod Searches
pub mod Scripts
pub mod ScriptLaws
