pub use Rattle.relative_file.proofs.CellLaws
pub use Rattle.relative_file.proofs.Places
pub use Rattle.relative_file.proofs.ReadLaws
