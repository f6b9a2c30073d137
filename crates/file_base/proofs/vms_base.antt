pub use Rattle.vms_base.proofs.IdLemmas
pub use Rattle.vms_base.proofs.NameLemmas
