pub use Rattle.run_model.proofs.log_laws.Counting
pub use Rattle.run_model.proofs.log_laws.Reading
pub use Rattle.run_model.proofs.log_laws.RowSlots
