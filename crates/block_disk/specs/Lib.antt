pub mod Blocks
pub mod Counts
pub mod Disk
pub mod Mem
pub mod Sizes
