pub mod Used
pub mod Four
