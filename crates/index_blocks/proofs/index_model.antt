pub use Rattle.index_bucket.proofs.index_model.DescentLemmas
pub use Rattle.index_bucket.proofs.index_model.HandLemmas
pub use Rattle.index_bucket.proofs.index_model.TreeLemmas
