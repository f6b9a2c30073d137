pub use Rattle.image_appends.proofs.Growing
