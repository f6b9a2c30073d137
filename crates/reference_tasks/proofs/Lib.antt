pub mod TaskLemmas
pub mod ServeLemmas
pub mod UnitsLemmas
pub mod RequestLemmas
pub mod RequestUnits
pub mod ServedUnits
pub mod reference_node
