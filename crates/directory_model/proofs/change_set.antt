pub use Rattle.file_images.proofs.change_set.NumberKeys
