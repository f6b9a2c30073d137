pub use Rattle.reference_node.proofs.TellLemmas
