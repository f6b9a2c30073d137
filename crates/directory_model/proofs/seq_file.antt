pub use Rattle.file_images.proofs.seq_file.FileLaws
pub use Rattle.file_images.proofs.seq_file.MapLaws
pub use Rattle.file_images.proofs.seq_file.RecordLaws
