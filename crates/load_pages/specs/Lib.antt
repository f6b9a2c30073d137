pub mod Given
pub mod Counts
pub use Rattle.load_laws.specs.indexed_file as indexed_file
pub use Rattle.load_laws.specs as load_laws
pub use Rattle.load_laws.specs.record_files as record_files
pub use Rattle.relative_file.specs as relative_file
