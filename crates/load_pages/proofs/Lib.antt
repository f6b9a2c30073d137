pub mod FillLemmas
pub mod CellFills
pub mod CountLemmas
pub mod KeyLemmas
pub mod NodeFills
pub mod TreeCounts
pub mod load_laws
pub mod relative_file
