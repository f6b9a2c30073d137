pub mod Counting
pub mod Streams
pub mod Journals
pub mod EntriesAt
pub mod Readings
