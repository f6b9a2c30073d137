pub mod Saves
pub mod Laws
pub use Rattle.record_files.specs.bucket_page as bucket_page
pub use Rattle.record_files.specs.index_blocks as index_blocks
pub use Rattle.record_files.specs.index_bucket as index_bucket
pub use Rattle.record_files.specs.index_model as index_model
pub use Rattle.record_files.specs.indexed_file as indexed_file
pub use Rattle.record_files.specs.indexed_tree as indexed_tree
pub use Rattle.record_files.specs as record_files
pub use Rattle.record_files.specs.relative_file as relative_file
pub use Rattle.record_files.specs.seq_file as seq_file
