pub mod Running
pub mod Requests
pub mod Labelled
pub mod Operating
pub mod Transacting
pub mod Managers
pub mod TheLaws
pub use Rattle.file_requests.specs.node_standing as node_standing
pub use Rattle.node_table.specs as node_table
