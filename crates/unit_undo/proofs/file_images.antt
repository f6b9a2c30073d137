pub use Rattle.directory_model.proofs.file_images.Rings
