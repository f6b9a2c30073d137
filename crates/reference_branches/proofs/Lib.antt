pub mod DoubtLemmas
pub mod StateLemmas
pub mod OwedLemmas
