pub mod Steps
pub mod Undoing
pub mod Way
pub mod FileWays
pub mod UnitWays
pub use Rattle.directory_model.specs as directory_model
pub use Rattle.directory_model.specs.file_images as file_images
pub use Rattle.volume_files.specs.record_files as record_files
pub use Rattle.unit_entries.specs as unit_entries
