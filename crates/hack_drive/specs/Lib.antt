pub mod Answered
pub mod Headline
pub mod Shown
pub mod Warnings
