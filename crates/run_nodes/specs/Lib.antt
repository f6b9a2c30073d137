pub mod Names
pub mod Calls
pub mod Untold
pub mod Together
pub mod Held
pub mod Tasks
pub mod Told
pub mod Phases
pub use Rattle.dtm_node.specs as dtm_node
pub use Rattle.dtm_node.specs.node_standing as node_standing
pub use Rattle.dtm_node.specs.node_table as node_table
pub use Rattle.statement_steps.specs as statement_steps
