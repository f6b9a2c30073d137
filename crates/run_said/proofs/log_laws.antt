pub use Rattle.run_model.proofs.log_laws.Reading
