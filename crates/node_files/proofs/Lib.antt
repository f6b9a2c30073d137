pub mod CatalogLemmas
pub mod NewHead
pub mod indexed_tree
