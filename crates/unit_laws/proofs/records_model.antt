pub use Rattle.tree_model.proofs.records_model.KeyLemmas
pub use Rattle.tree_model.proofs.records_model.RecordsLemmas
pub use Rattle.tree_model.proofs.records_model.SlotLaws
