pub use Rattle.file_recoveries.proofs.CauseLemmas
pub use Rattle.file_recoveries.proofs.SuitLemmas
