pub mod ReadLemmas
pub mod unit_entries
