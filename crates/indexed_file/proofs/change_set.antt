pub use Rattle.change_set.proofs.BucketLaws
pub use Rattle.change_set.proofs.Extents
pub use Rattle.change_set.proofs.Frames
