pub use Rattle.journal_format.proofs.Decoding
