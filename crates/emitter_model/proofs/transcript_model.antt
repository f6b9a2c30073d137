pub use Rattle.transcript_model.proofs.LineLemmas
pub use Rattle.transcript_model.proofs.OutsideLemmas
pub use Rattle.transcript_model.proofs.ScriptLemmas
