pub use Rattle.record_files.proofs.change_set.Changes
pub use Rattle.record_files.proofs.change_set.NumberKeys
