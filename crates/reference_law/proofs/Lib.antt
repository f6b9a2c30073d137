pub mod DigitLemmas
pub mod RunLemmas
pub mod RunsLemmas
pub mod RowLemmas
pub mod SequentialRow
pub mod IndexedRow
