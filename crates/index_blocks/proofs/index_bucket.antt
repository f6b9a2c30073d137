pub use Rattle.index_bucket.proofs.HandLaws
