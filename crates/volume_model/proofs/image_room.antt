pub use Rattle.image_room.proofs.Keeping
pub use Rattle.image_room.proofs.Model
pub use Rattle.image_room.proofs.Rings
