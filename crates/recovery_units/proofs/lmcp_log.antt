pub use Rattle.volume_model.proofs.lmcp_log.SlotLemmas
