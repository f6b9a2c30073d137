pub use Rattle.volume_laws.proofs.restart_laws.ChangingLemmas
pub use Rattle.volume_laws.proofs.restart_laws.FoundLemmas
pub use Rattle.volume_laws.proofs.restart_laws.ListLemmas
pub use Rattle.volume_laws.proofs.restart_laws.StayLemmas
pub use Rattle.volume_laws.proofs.restart_laws.UnitLemmas
