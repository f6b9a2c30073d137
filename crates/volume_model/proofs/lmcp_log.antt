pub use Rattle.lmcp_log.proofs.Keepings
pub use Rattle.lmcp_log.proofs.SlotLemmas
pub use Rattle.lmcp_log.proofs.Whole
