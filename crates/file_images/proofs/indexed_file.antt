pub use Rattle.save_laws.proofs.indexed_file.FileLaws
pub use Rattle.save_laws.proofs.indexed_file.SetLaws
