pub use Rattle.volume_model.proofs.image_room.Keeping
pub use Rattle.volume_model.proofs.image_room.Model
pub use Rattle.volume_model.proofs.image_room.Rings
