pub use Rattle.volume_format.proofs.Names
pub use Rattle.volume_format.proofs.Splices
