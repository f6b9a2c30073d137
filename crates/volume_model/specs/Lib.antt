pub mod Entries
pub mod Homes
pub mod Bars
pub mod Volumes
pub mod Laws
pub use Rattle.directory_model.specs.change_set as change_set
pub use Rattle.world_laws.specs.commit_protocol as commit_protocol
pub use Rattle.directory_model.specs as directory_model
pub use Rattle.image_room.specs.image_appends as image_appends
pub use Rattle.image_room.specs as image_room
pub use Rattle.lmcp_log.specs as lmcp_log
pub use Rattle.world_laws.specs.log_laws as log_laws
pub use Rattle.world_laws.specs.recovery_model as recovery_model
pub use Rattle.world_laws.specs.run_model as run_model
pub use Rattle.directory_model.specs.save_laws as save_laws
pub use Rattle.world_laws.specs.script_model as script_model
pub use Rattle.lmcp_log.specs.tm_types as tm_types
pub use Rattle.world_laws.specs.transcript_model as transcript_model
pub use Rattle.directory_model.specs.unit_entries as unit_entries
pub use Rattle.unit_laws.specs as unit_laws
pub use Rattle.lmcp_log.specs.volume as volume
pub use Rattle.world_laws.specs as world_laws
