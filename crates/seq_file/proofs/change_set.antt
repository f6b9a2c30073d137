pub use Rattle.change_set.proofs.Changes
pub use Rattle.change_set.proofs.Extents
pub use Rattle.change_set.proofs.NumberKeys
