pub mod Falls
pub mod Journals
pub mod Logs
pub use Rattle.restart_laws.specs.directory_model as directory_model
pub use Rattle.restart_laws.specs.file_images as file_images
pub use Rattle.restart_laws.specs as restart_laws
pub use Rattle.volume_model.specs as volume_model
