pub use Rattle.unit_entries.proofs.seq_file.FileLaws
pub use Rattle.unit_entries.proofs.seq_file.MapLaws
pub use Rattle.unit_entries.proofs.seq_file.RecordLaws
