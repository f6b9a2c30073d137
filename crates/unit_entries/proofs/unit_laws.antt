pub use Rattle.run_model.proofs.unit_laws.HistoryLaws
pub use Rattle.run_model.proofs.unit_laws.LiveLemmas
pub use Rattle.run_model.proofs.unit_laws.RepresentLemmas
pub use Rattle.run_model.proofs.unit_laws.Tests
pub use Rattle.run_model.proofs.unit_laws.TrimLemmas
