pub mod PageLemmas
pub mod WriteLemmas
pub mod LoopLemmas
pub mod GivenLemmas
pub mod IndexLemmas
pub mod TreeWrites
pub mod CellWrites
