pub use Rattle.restart_laws.proofs.ChangingLemmas
pub use Rattle.restart_laws.proofs.FoundLemmas
pub use Rattle.restart_laws.proofs.ListLemmas
pub use Rattle.restart_laws.proofs.StandLemmas
pub use Rattle.restart_laws.proofs.StayLemmas
pub use Rattle.restart_laws.proofs.UnitLemmas
