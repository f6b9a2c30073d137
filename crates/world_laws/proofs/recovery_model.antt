pub use Rattle.run_model.proofs.recovery_model.MapLemmas
pub use Rattle.run_model.proofs.recovery_model.Recoveries
