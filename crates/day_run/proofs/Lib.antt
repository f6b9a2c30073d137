pub mod Known
pub mod Making
pub mod Reading
pub mod Going
pub mod Served
pub mod Telling
pub mod dtm_node
pub mod run_nodes
