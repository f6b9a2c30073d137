pub use Rattle.row_laws.proofs.Composing
