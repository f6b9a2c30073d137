pub mod ReadLemmas
pub mod RollLemmas
pub mod file_images
