pub mod Joined
pub mod Replying
pub mod Asking
pub mod Joining
pub mod Telling
pub mod Members
pub mod Promises
