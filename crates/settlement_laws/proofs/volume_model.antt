pub use Rattle.volume_laws.proofs.volume_model.EntryLemmas
