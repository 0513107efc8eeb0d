pub mod Listing
pub mod Permitted
pub mod OpenLemmas
pub mod Walked
pub mod OrderLemmas
pub mod ForestLemmas
