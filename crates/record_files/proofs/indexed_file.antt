pub use Rattle.indexed_tree.proofs.indexed_file.FileLaws
pub use Rattle.indexed_tree.proofs.indexed_file.GrownLaws
pub use Rattle.indexed_tree.proofs.indexed_file.SetLaws
