pub use Rattle.unit_cuts.proofs.CutEntering
pub use Rattle.unit_cuts.proofs.CutFrames
pub use Rattle.unit_cuts.proofs.CutLemmas
pub use Rattle.unit_cuts.proofs.CutMade
pub use Rattle.unit_cuts.proofs.CutSofar
pub use Rattle.unit_cuts.proofs.EntrySizes
pub use Rattle.unit_cuts.proofs.Outcomes
pub use Rattle.unit_cuts.proofs.OwnLemmas
