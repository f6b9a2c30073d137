pub use Rattle.tree_model.proofs.BoundLemmas
pub use Rattle.tree_model.proofs.LoadLemmas
pub use Rattle.tree_model.proofs.PartsLemmas
pub use Rattle.tree_model.proofs.Tests
