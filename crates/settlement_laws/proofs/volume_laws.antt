pub use Rattle.volume_laws.proofs.FollowLemmas
pub use Rattle.volume_laws.proofs.ToldLemmas
