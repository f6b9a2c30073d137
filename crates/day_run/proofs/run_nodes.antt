pub use Rattle.run_nodes.proofs.Entries
pub use Rattle.run_nodes.proofs.Firsts
pub use Rattle.run_nodes.proofs.Lookups
pub use Rattle.run_nodes.proofs.Places
pub use Rattle.run_nodes.proofs.Telling
