pub use Rattle.directory_model.proofs.Acts
pub use Rattle.directory_model.proofs.Finding
pub use Rattle.directory_model.proofs.Places
pub use Rattle.directory_model.proofs.Standing
