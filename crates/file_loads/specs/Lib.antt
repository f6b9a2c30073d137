pub mod Writes
pub mod Failing
