pub mod EmittingLemmas
pub mod commit_protocol
pub mod transcript_model
