pub use Rattle.volume_model.proofs.volume_files.Places
