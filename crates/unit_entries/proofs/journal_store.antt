pub use Rattle.journal_store.proofs.EntriesAt
pub use Rattle.journal_store.proofs.Journals
