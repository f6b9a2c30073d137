pub use Rattle.log_laws.proofs.Counting
pub use Rattle.log_laws.proofs.HandingOn
pub use Rattle.log_laws.proofs.Reading
pub use Rattle.log_laws.proofs.RowSlots
pub use Rattle.log_laws.proofs.Slotting
