pub use Rattle.record_files.proofs.indexed_tree.RootLaws
