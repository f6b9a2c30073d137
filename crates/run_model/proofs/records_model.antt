pub use Rattle.recovery_model.proofs.records_model.KeyLemmas
pub use Rattle.recovery_model.proofs.records_model.RecordsLemmas
