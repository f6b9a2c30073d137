pub mod Tells
pub mod Serving
pub use Rattle.run_nodes.specs.dtm_node as dtm_node
pub use Rattle.run_nodes.specs.node_standing as node_standing
pub use Rattle.run_nodes.specs.node_table as node_table
pub use Rattle.run_nodes.specs as run_nodes
pub use Rattle.run_shared.specs as run_shared
