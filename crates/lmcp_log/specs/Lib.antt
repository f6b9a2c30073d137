pub mod Slot
pub mod Log
pub mod Keeping
pub use Rattle.careful_write.specs as careful_write
pub use Rattle.file_base.specs as file_base
pub use Rattle.tm_types.specs as tm_types
pub use Rattle.vms_base.specs as vms_base
pub use Rattle.volume.specs as volume
pub use Rattle.volume_format.specs as volume_format
