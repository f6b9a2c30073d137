pub use Rattle.seq_file.proofs.FileLaws
pub use Rattle.seq_file.proofs.MapLaws
pub use Rattle.seq_file.proofs.RecordLaws
