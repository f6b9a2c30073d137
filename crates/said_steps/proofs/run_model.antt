pub use Rattle.run_said.proofs.run_model.NodeLists
