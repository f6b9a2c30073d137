pub use Rattle.unit_undo.proofs.ApartLemmas
pub use Rattle.unit_undo.proofs.StepLemmas
