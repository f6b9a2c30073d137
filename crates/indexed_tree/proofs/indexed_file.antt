pub use Rattle.indexed_file.proofs.FileLaws
pub use Rattle.indexed_file.proofs.GrownLaws
pub use Rattle.indexed_file.proofs.SetLaws
