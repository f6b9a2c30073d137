pub use Rattle.run_said.proofs.Views
