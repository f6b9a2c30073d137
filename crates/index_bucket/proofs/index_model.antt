pub use Rattle.index_model.proofs.DescentLemmas
pub use Rattle.index_model.proofs.HandLemmas
pub use Rattle.index_model.proofs.TreeLemmas
