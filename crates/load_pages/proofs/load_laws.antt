pub use Rattle.load_laws.proofs.CellLemmas
pub use Rattle.load_laws.proofs.ChainLemmas
pub use Rattle.load_laws.proofs.LoadLaws
pub use Rattle.load_laws.proofs.RawLemmas
pub use Rattle.load_laws.proofs.TreeLaws
