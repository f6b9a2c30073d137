pub use Rattle.unit_entries.proofs.KeyLemmas
pub use Rattle.unit_entries.proofs.OpenLemmas
pub use Rattle.unit_entries.proofs.ReadLemmas
