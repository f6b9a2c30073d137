pub use Rattle.run_nodes.proofs.dtm_node.DiskLemmas
