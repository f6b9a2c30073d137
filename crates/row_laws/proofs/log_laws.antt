pub use Rattle.run_model.proofs.log_laws.HandingOn
pub use Rattle.run_model.proofs.log_laws.Reading
pub use Rattle.run_model.proofs.log_laws.RowSlots
pub use Rattle.run_model.proofs.log_laws.Slotting
