pub use Rattle.file_images.proofs.sequence_laws.ChangeLemmas
pub use Rattle.file_images.proofs.sequence_laws.OthersLemmas
pub use Rattle.file_images.proofs.sequence_laws.SequenceLemmas
