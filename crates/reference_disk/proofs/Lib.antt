pub mod DiskLemmas
pub mod FoundLemmas
pub mod MarkLemmas
