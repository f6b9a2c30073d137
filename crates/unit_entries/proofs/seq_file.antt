pub use Rattle.sequence_laws.proofs.seq_file.FileLaws
pub use Rattle.sequence_laws.proofs.seq_file.MapLaws
pub use Rattle.sequence_laws.proofs.seq_file.RecordLaws
