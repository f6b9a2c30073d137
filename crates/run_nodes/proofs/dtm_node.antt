pub use Rattle.dtm_node.proofs.DiskLemmas
