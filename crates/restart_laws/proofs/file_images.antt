pub use Rattle.directory_model.proofs.file_images.Forms
pub use Rattle.directory_model.proofs.file_images.Rings
pub use Rattle.directory_model.proofs.file_images.Sides
pub use Rattle.directory_model.proofs.file_images.Sizes
