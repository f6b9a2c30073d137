pub use Rattle.recovery_model.proofs.HalfLemmas
pub use Rattle.recovery_model.proofs.MapLemmas
pub use Rattle.recovery_model.proofs.OrderLemmas
pub use Rattle.recovery_model.proofs.Recoveries
pub use Rattle.recovery_model.proofs.StatementLemmas
