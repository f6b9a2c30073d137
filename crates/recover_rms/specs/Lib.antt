pub mod Loading
pub mod Replacing
pub mod Calls
pub use Rattle.file_recoveries.specs as file_recoveries
pub use Rattle.record_files.specs.index_blocks as index_blocks
pub use Rattle.record_files.specs.indexed_tree as indexed_tree
pub use Rattle.load_pages.specs.load_laws as load_laws
pub use Rattle.record_files.specs as record_files
pub use Rattle.file_recoveries.specs.save_laws as save_laws
