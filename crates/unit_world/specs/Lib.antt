pub use Rattle.volume_laws.specs.directory_model as directory_model
pub use Rattle.volume_laws.specs.file_images as file_images
pub use Rattle.recovery_units.specs.lmcp_log as lmcp_log
pub use Rattle.recovery_units.specs as recovery_units
pub use Rattle.volume_laws.specs.restart_laws as restart_laws
pub use Rattle.recovery_units.specs.volume as volume
pub use Rattle.volume_laws.specs as volume_laws
pub use Rattle.recovery_units.specs.volume_model as volume_model
