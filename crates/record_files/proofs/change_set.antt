pub use Rattle.seq_file.proofs.change_set.Changes
pub use Rattle.seq_file.proofs.change_set.Extents
pub use Rattle.seq_file.proofs.change_set.NumberKeys
