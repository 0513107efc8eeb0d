pub mod Sets
pub mod Rules
pub mod Runs
pub mod Internal
pub mod Scripts
pub mod ScriptLaws
