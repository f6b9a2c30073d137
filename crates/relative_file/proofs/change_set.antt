pub use Rattle.change_set.proofs.Extents
