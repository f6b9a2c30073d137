pub mod LoadLemmas
pub mod PlaceLemmas
pub mod ReplaceLemmas
pub mod ReadableLemmas
pub mod CallLemmas
pub mod CauseLemmas
pub mod DoneLemmas
pub mod file_recoveries
