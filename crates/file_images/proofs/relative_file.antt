pub use Rattle.save_laws.proofs.relative_file.Places
pub use Rattle.save_laws.proofs.relative_file.ReadLaws
