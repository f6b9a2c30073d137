pub use Rattle.unit_journal.proofs.Entered
