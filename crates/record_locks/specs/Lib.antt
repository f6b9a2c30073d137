pub mod Locks
pub mod Table
pub mod Turns
pub mod Refusals
