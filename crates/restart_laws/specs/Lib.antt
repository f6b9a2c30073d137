pub mod Falls
pub mod Units
pub mod Restorable
pub mod Halves
pub use Rattle.directory_model.specs.change_set as change_set
pub use Rattle.directory_model.specs as directory_model
pub use Rattle.directory_model.specs.file_images as file_images
pub use Rattle.directory_model.specs.record_files as record_files
pub use Rattle.world_laws.specs.run_model as run_model
