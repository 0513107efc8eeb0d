pub mod Closures
pub mod View
pub mod Internal
