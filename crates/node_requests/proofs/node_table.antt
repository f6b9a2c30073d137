pub use Rattle.node_table.proofs.Doubting
