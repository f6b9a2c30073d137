pub use Rattle.image_room.proofs.volume_files.Places
