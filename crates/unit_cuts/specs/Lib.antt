pub mod Records
pub mod Truncating
pub mod Moving
pub use Rattle.unit_journal.specs as unit_journal
