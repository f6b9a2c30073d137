pub mod ListLemmas
pub mod PartLemmas
pub mod IndexLemmas
pub mod LoadLemmas
pub mod records_model
