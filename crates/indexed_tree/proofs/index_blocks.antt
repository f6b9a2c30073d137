pub use Rattle.index_blocks.proofs.LevelLaws
