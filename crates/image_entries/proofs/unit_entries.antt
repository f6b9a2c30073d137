pub use Rattle.unit_entries.proofs.StoreLemmas
