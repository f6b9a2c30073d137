pub mod Staging
pub use Rattle.record_files.specs.indexed_file as indexed_file
pub use Rattle.record_files.specs.indexed_tree as indexed_tree
pub use Rattle.record_files.specs as record_files
pub use Rattle.record_files.specs.relative_file as relative_file
pub use Rattle.record_files.specs.seq_file as seq_file
