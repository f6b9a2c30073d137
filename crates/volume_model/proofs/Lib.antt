pub mod EntryLemmas
pub mod image_room
pub mod lmcp_log
pub mod run_model
pub mod volume_files
pub mod world_laws
