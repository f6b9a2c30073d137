pub use Rattle.file_images.proofs.Forms
pub use Rattle.file_images.proofs.Rings
pub use Rattle.file_images.proofs.Sides
pub use Rattle.file_images.proofs.Sizes
