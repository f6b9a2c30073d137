pub mod Breaking
pub mod Entered
pub mod EntryLemmas
pub mod Falling
pub mod Growing
pub mod Settled
