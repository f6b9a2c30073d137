pub use Rattle.run_chains.proofs.Anew
pub use Rattle.run_chains.proofs.Names
pub use Rattle.run_chains.proofs.Next
