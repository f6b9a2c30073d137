pub mod Answers
pub mod Counters
pub mod Ends
