pub use Rattle.tree_model.proofs.BoundLemmas
pub use Rattle.tree_model.proofs.FindLemmas
pub use Rattle.tree_model.proofs.IndexLemmas
pub use Rattle.tree_model.proofs.PartsLemmas
pub use Rattle.tree_model.proofs.RoomLemmas
pub use Rattle.tree_model.proofs.SetLemmas
pub use Rattle.tree_model.proofs.ZeroLemmas
