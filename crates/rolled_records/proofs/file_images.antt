pub use Rattle.image_laws.proofs.file_images.Forms
