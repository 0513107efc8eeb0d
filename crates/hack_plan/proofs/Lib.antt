mod Joins
mod BlockLemmas
mod Growth
mod Groups
mod Pigeon
mod Never
mod SpanLemmas
mod TwoLemmas
mod CommandJoins
mod Ready
mod Shown
mod Within
pub mod GrowingPlans
