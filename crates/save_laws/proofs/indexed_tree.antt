pub use Rattle.record_files.proofs.indexed_tree.RootLaws
pub use Rattle.record_files.proofs.indexed_tree.StayLaws
