pub mod Settling
pub use Rattle.image_appends.specs as image_appends
pub use Rattle.unit_journal.specs.journal_store as journal_store
pub use Rattle.unit_journal.specs as unit_journal
