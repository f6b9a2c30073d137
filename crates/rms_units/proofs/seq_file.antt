pub use Rattle.unit_entries.proofs.seq_file.RecordLaws
