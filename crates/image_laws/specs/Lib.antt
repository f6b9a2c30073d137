pub mod Laws
pub use Rattle.file_images.specs as file_images
pub use Rattle.image_entries.specs as image_entries
pub use Rattle.file_images.specs.save_laws as save_laws
pub use Rattle.image_entries.specs.unit_entries as unit_entries
