pub use Rattle.tree_model.proofs.records_model.PartLaws
pub use Rattle.tree_model.proofs.records_model.SlotLaws
