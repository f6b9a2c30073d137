pub use Rattle.change_set.proofs.tree_model.BoundLemmas
pub use Rattle.change_set.proofs.tree_model.FindLemmas
pub use Rattle.change_set.proofs.tree_model.IndexLemmas
pub use Rattle.change_set.proofs.tree_model.PartsLemmas
pub use Rattle.change_set.proofs.tree_model.RoomLemmas
pub use Rattle.change_set.proofs.tree_model.SetLemmas
pub use Rattle.change_set.proofs.tree_model.ZeroLemmas
