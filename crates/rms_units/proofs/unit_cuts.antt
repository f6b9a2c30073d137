pub use Rattle.key_changes.proofs.unit_cuts.CutEntering
pub use Rattle.key_changes.proofs.unit_cuts.CutLemmas
pub use Rattle.key_changes.proofs.unit_cuts.EntrySizes
pub use Rattle.key_changes.proofs.unit_cuts.Outcomes
