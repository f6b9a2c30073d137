pub use Rattle.statement_steps.proofs.Keeping
pub use Rattle.statement_steps.proofs.Stepping
