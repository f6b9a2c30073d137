pub mod Disks
pub mod Marks
pub mod Recovering
