pub mod Tally
pub mod Emitting
pub use Rattle.transcript_model.specs.commit_protocol as commit_protocol
pub use Rattle.transcript_model.specs as transcript_model
