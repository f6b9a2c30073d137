pub use Rattle.volume_laws.proofs.FollowLemmas
pub use Rattle.volume_laws.proofs.LogLemmas
pub use Rattle.volume_laws.proofs.ToldLemmas
pub use Rattle.volume_laws.proofs.WholeLemmas
