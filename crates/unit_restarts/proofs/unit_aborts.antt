pub use Rattle.unit_aborts.proofs.ImageLemmas
