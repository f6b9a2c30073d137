pub use Rattle.image_room.proofs.Keeping
