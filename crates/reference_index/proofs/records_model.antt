pub use Rattle.run_model.proofs.records_model.KeyLemmas
