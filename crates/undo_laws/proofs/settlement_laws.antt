pub use Rattle.settlement_laws.proofs.MadeLemmas
