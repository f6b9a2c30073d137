pub mod Cases
pub mod change_set
pub mod index_blocks
pub mod indexed_file
pub mod indexed_tree
pub mod relative_file
