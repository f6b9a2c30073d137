pub mod Rolling
pub use Rattle.image_laws.specs.file_images as file_images
pub use Rattle.image_laws.specs as image_laws
pub use Rattle.record_files.specs as record_files
pub use Rattle.image_laws.specs.save_laws as save_laws
