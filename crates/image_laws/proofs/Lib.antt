pub mod Entries
pub mod Following
pub mod file_images
pub mod unit_entries
