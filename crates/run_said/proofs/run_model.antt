pub use Rattle.run_model.proofs.CauseLemmas
pub use Rattle.run_model.proofs.Failing
pub use Rattle.run_model.proofs.NodeLists
pub use Rattle.run_model.proofs.PartLemmas
pub use Rattle.run_model.proofs.PartTasks
pub use Rattle.run_model.proofs.Refusing
pub use Rattle.run_model.proofs.TaskLemmas
