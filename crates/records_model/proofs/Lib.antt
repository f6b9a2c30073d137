pub mod KeyLemmas
pub mod RecordsLemmas
pub mod SlotLaws
pub mod PartLaws
pub mod ChainLemmas
