pub mod Seen
pub mod Following
pub mod Laws
