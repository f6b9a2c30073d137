pub mod Any
pub mod Local
pub mod Indexed
pub use Rattle.block_disk.specs as block_disk
pub use Rattle.seq_file.specs.bucket_page as bucket_page
pub use Rattle.relative_file.specs.change_set as change_set
pub use Rattle.file_base.specs as file_base
pub use Rattle.indexed_tree.specs.index_blocks as index_blocks
pub use Rattle.indexed_tree.specs.index_bucket as index_bucket
pub use Rattle.indexed_tree.specs.index_model as index_model
pub use Rattle.indexed_tree.specs.indexed_file as indexed_file
pub use Rattle.indexed_tree.specs as indexed_tree
pub use Rattle.relative_file.specs as relative_file
pub use Rattle.seq_file.specs as seq_file
pub use Rattle.relative_file.specs.tree_model as tree_model
