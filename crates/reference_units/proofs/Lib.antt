pub mod EntryLemmas
pub mod LockLemmas
pub mod ShownLemmas
pub mod UnitLemmas
