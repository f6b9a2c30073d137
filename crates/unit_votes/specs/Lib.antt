pub mod Logging
pub mod Tied
pub mod Voting
