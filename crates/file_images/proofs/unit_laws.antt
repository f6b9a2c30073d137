pub use Rattle.unit_entries.proofs.unit_laws.HistoryLaws
pub use Rattle.unit_entries.proofs.unit_laws.LiveLemmas
pub use Rattle.unit_entries.proofs.unit_laws.TrimLemmas
