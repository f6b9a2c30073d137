pub mod FormLemmas
pub mod Places
pub mod RestoreLemmas
pub mod SoundLemmas
pub mod StagingLemmas
pub mod StagingTells
pub mod Walks
