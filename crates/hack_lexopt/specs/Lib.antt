pub mod Cuts
pub mod Parsers
pub mod Internal
