pub use Rattle.world_laws.proofs.run_model.CauseLemmas
pub use Rattle.world_laws.proofs.run_model.Failing
pub use Rattle.world_laws.proofs.run_model.NodeLists
pub use Rattle.world_laws.proofs.run_model.PartLemmas
pub use Rattle.world_laws.proofs.run_model.TaskLemmas
