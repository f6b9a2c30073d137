pub use Rattle.unit_entries.proofs.journal_format.Decoding
