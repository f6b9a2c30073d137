pub use Rattle.image_entries.proofs.unit_entries.StoreLemmas
