pub mod FormLemmas
pub mod OtherLemmas
pub mod ReadLemmas
pub mod image_room
pub mod lmcp_log
pub mod volume_model
pub mod world_laws
