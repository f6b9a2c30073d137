pub mod PlaceLemmas
pub mod TableLemmas
pub mod RecordLemmas
pub mod DoingLemmas
pub mod FitLemmas
pub mod SweepLemmas
pub mod RestartLemmas
