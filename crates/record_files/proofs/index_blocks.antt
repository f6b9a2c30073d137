pub use Rattle.indexed_tree.proofs.index_blocks.LevelLaws
