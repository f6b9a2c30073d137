pub mod AllowedLemmas
pub mod CauseLemmas
pub mod RollLemmas
pub mod SuitLemmas
