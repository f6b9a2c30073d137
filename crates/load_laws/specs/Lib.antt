pub mod Records
pub mod Pages
pub mod Chains
pub mod Cells
pub mod Keys
pub mod Loads
pub mod Laws
pub use Rattle.record_files.specs.indexed_file as indexed_file
pub use Rattle.record_files.specs as record_files
pub use Rattle.record_files.specs.seq_file as seq_file
