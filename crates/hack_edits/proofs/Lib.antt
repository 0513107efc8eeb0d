pub mod TreeLemmas
pub mod ItemLemmas
pub mod LeftLemmas
pub mod RecutLemmas
pub mod AgainLemmas
pub mod AsideLemmas
pub mod ArrayLemmas
