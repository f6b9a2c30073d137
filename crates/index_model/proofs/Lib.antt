pub mod DescentLemmas
pub mod HandLemmas
pub mod TreeLemmas
pub mod records_model
pub mod tree_model
