pub use Rattle.unit_journal.proofs.EntryLemmas
pub use Rattle.unit_journal.proofs.Falling
