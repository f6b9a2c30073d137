pub mod Catalogs
pub mod Conditions
pub mod Contents
pub mod Empty
pub mod Findings
pub mod Limits
pub mod Listing
pub mod Load
pub mod Mount
pub mod State
pub use Rattle.extents.specs as extents
pub use Rattle.volume_format.specs as volume_format
