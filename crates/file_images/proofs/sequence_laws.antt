pub use Rattle.unit_entries.proofs.sequence_laws.ChangeLemmas
pub use Rattle.unit_entries.proofs.sequence_laws.OthersLemmas
pub use Rattle.unit_entries.proofs.sequence_laws.SequenceLemmas
