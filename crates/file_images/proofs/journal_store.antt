pub use Rattle.unit_entries.proofs.journal_store.EntriesAt
pub use Rattle.unit_entries.proofs.journal_store.Journals
