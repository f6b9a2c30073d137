pub mod Images
pub mod Settling
pub use Rattle.unit_journal.specs.change_set as change_set
pub use Rattle.journal_format.specs.journal_model as journal_model
pub use Rattle.journal_store.specs as journal_store
pub use Rattle.unit_journal.specs as unit_journal
