pub mod Standing
pub mod Growing
pub mod Telling
pub mod Code
pub mod Running
pub mod Serving
pub use Rattle.recovery_units.specs.lmcp_log as lmcp_log
pub use Rattle.recovery_units.specs as recovery_units
pub use Rattle.row_laws.specs as row_laws
pub use Rattle.run_shared.specs as run_shared
pub use Rattle.volume.specs as volume
pub use Rattle.recovery_units.specs.volume_model as volume_model
pub use Rattle.recovery_units.specs.world_laws as world_laws
