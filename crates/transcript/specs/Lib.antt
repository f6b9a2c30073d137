pub mod Writes
pub mod Memory
pub mod Reading
pub mod Buffered
pub mod Forms
pub mod Emitters
