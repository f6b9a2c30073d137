pub use Rattle.change_set.proofs.records_model.SlotLaws
