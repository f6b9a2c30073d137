pub mod States
pub mod Led
pub mod Loading
pub mod Gaps
pub mod Mapped
pub mod Entering
pub mod Staying
pub mod Recovering
pub mod Rows
pub use Rattle.world_laws.specs.run_model as run_model
pub use Rattle.world_laws.specs as world_laws
