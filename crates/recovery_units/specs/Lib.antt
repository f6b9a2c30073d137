pub mod State
pub mod Told
pub mod Uses
pub mod Calls
pub mod Laws
pub mod Others
pub use Rattle.volume_model.specs.image_appends as image_appends
pub use Rattle.volume_model.specs.image_room as image_room
pub use Rattle.volume_model.specs.lmcp_log as lmcp_log
pub use Rattle.volume_model.specs.recovery_model as recovery_model
pub use Rattle.volume_model.specs.run_model as run_model
pub use Rattle.volume_model.specs.script_model as script_model
pub use Rattle.volume_model.specs.unit_entries as unit_entries
pub use Rattle.volume.specs as volume
pub use Rattle.volume_model.specs as volume_model
pub use Rattle.volume_model.specs.world_laws as world_laws
