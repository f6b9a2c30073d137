pub use Rattle.indexed_tree.proofs.LocalLaws
pub use Rattle.indexed_tree.proofs.RootLaws
pub use Rattle.indexed_tree.proofs.StayLaws
