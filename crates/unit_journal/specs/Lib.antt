pub mod Entries
pub mod Spans
pub mod Groups
pub mod Leaving
pub mod Room
pub mod Settling
pub use Rattle.change_set.specs as change_set
pub use Rattle.journal_store.specs as journal_store
