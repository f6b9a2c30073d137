pub use Rattle.save_laws.proofs.indexed_tree.RootLaws
pub use Rattle.save_laws.proofs.indexed_tree.StayLaws
