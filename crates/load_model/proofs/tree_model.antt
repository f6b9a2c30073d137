pub use Rattle.index_model.proofs.tree_model.BoundLemmas
pub use Rattle.index_model.proofs.tree_model.LoadLemmas
pub use Rattle.index_model.proofs.tree_model.PartsLemmas
pub use Rattle.index_model.proofs.tree_model.Tests
