pub mod EntryLemmas
pub mod ChangeLemmas
pub mod RunsLemmas
pub mod FileLemmas
