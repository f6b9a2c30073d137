pub mod PartingLemmas
pub mod LiteralLemmas
pub mod ReadsLemmas
pub mod WhereLemmas
pub mod TableLemmas
