pub mod HandingOn
pub mod Slotting
pub mod RowSlots
pub mod Reading
pub mod Counting
pub mod commit_protocol
