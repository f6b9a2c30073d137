pub use Rattle.unit_laws.proofs.records_model.KeyLemmas
pub use Rattle.unit_laws.proofs.records_model.RecordsLemmas
