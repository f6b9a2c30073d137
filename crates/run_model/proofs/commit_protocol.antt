pub use Rattle.transcript_model.proofs.commit_protocol.Lists
pub use Rattle.transcript_model.proofs.commit_protocol.Serials
pub use Rattle.transcript_model.proofs.commit_protocol.StandingRows
pub use Rattle.transcript_model.proofs.commit_protocol.Within
pub use Rattle.transcript_model.proofs.commit_protocol.WithinRows
