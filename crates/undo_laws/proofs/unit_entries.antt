pub use Rattle.unit_undo.proofs.unit_entries.KeyLemmas
pub use Rattle.unit_undo.proofs.unit_entries.OpenLemmas
