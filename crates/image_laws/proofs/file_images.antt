pub use Rattle.file_images.proofs.Forms
