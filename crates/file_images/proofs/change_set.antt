pub use Rattle.save_laws.proofs.change_set.Changes
pub use Rattle.save_laws.proofs.change_set.NumberKeys
