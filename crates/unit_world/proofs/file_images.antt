pub use Rattle.volume_laws.proofs.file_images.Forms
pub use Rattle.volume_laws.proofs.file_images.Rings
pub use Rattle.volume_laws.proofs.file_images.Sides
pub use Rattle.volume_laws.proofs.file_images.Sizes
