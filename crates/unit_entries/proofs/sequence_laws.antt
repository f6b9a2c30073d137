pub use Rattle.sequence_laws.proofs.ChangeLemmas
pub use Rattle.sequence_laws.proofs.OthersLemmas
pub use Rattle.sequence_laws.proofs.SequenceLemmas
