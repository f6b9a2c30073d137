pub use Rattle.volume_files.proofs.Places
