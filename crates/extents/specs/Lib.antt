pub mod Extents
pub use Rattle.file_base.specs as file_base
pub use Rattle.file_base.specs.vms_base as vms_base
