pub use Rattle.records_model.proofs.KeyLemmas
pub use Rattle.records_model.proofs.PartLaws
pub use Rattle.records_model.proofs.RecordsLemmas
pub use Rattle.records_model.proofs.SlotLaws
