pub use Rattle.restart_laws.proofs.FallLemmas
pub use Rattle.restart_laws.proofs.HalfLemmas
pub use Rattle.restart_laws.proofs.ListLemmas
pub use Rattle.restart_laws.proofs.PreparedLemmas
pub use Rattle.restart_laws.proofs.RestorableLemmas
pub use Rattle.restart_laws.proofs.StandLemmas
pub use Rattle.restart_laws.proofs.StayLemmas
pub use Rattle.restart_laws.proofs.UnitLemmas
