pub use Rattle.volume_model.proofs.EntryLemmas
