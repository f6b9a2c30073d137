pub mod Locks
pub mod Units
pub mod Files
