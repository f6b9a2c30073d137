pub use Rattle.image_groups.proofs.Behind
pub use Rattle.image_groups.proofs.Dressed
pub use Rattle.image_groups.proofs.Lists
pub use Rattle.image_groups.proofs.Outcomes
pub use Rattle.image_groups.proofs.Sides
