pub use Rattle.world_laws.proofs.run_model.NodeLists
