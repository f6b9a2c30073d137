pub mod Serving
pub mod Tasks
pub use Rattle.reference_node.specs as reference_node
