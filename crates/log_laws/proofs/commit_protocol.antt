pub use Rattle.commit_protocol.proofs.Lists
pub use Rattle.commit_protocol.proofs.Serials
