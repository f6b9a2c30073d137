pub use Rattle.file_images.proofs.journal_format.Decoding
