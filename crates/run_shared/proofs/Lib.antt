pub mod LabelLemmas
pub mod Numbering
pub mod Posting
