pub mod SequenceLemmas
pub mod OthersLemmas
pub mod ChangeLemmas
pub mod seq_file
