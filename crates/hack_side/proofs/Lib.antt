pub mod OfferLemmas
pub mod StepLemmas
