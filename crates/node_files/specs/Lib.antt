pub mod NewFile
pub mod Writing
pub use Rattle.directory_model.specs as directory_model
pub use Rattle.directory_model.specs.file_images as file_images
pub use Rattle.record_files.specs.indexed_tree as indexed_tree
pub use Rattle.record_files.specs as record_files
pub use Rattle.save_sets.specs as save_sets
