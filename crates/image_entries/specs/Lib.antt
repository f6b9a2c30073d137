pub mod Entries
pub mod Changes
pub use Rattle.unit_entries.specs.change_set as change_set
pub use Rattle.journal_store.specs as journal_store
pub use Rattle.unit_entries.specs.recovery_model as recovery_model
pub use Rattle.unit_entries.specs as unit_entries
