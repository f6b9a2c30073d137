pub mod AbortLemmas
pub mod GrowLemmas
pub mod TakeLemmas
pub mod ReadLemmas
pub mod ImageLemmas
pub mod image_room
