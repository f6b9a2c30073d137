pub use Rattle.file_images.proofs.relative_file.Places
pub use Rattle.file_images.proofs.relative_file.ReadLaws
