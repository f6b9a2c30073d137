pub mod Splices
pub mod Names
pub mod Homes
pub mod Readings
pub mod Heads
