pub mod CommitLemmas
