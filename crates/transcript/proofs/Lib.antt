pub mod MemoryLemmas
pub mod WritesLemmas
pub mod ReadingLemmas
pub mod BufferedLemmas
pub mod SerialsLemmas
