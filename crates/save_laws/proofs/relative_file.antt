pub use Rattle.record_files.proofs.relative_file.Places
pub use Rattle.record_files.proofs.relative_file.ReadLaws
