pub use Rattle.record_files.proofs.indexed_file.FileLaws
pub use Rattle.record_files.proofs.indexed_file.SetLaws
