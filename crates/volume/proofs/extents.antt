pub use Rattle.extents.proofs.Used
