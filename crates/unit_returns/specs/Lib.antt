pub mod Locking
pub mod Returning
pub use Rattle.unit_journal.specs as unit_journal
