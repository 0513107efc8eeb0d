pub mod AskLemmas
pub mod WayLemmas
pub mod BackLemmas
pub mod CountLemmas
mod CallLemmas
mod LaneLemmas
mod StrangerLemmas
mod TellingLemmas
mod SaidLemmas
mod SettledLemmas
mod CopyLemmas
