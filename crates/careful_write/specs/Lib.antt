pub mod Content
pub mod Down
pub mod Load
pub mod Parts
pub mod Reads
pub mod Sizes
pub mod State
pub mod Steps
pub use Rattle.block_disk.specs as block_disk
