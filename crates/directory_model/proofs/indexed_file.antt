pub use Rattle.file_images.proofs.indexed_file.FileLaws
pub use Rattle.file_images.proofs.indexed_file.SetLaws
