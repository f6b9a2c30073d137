pub mod Nodes
pub mod Telling
pub use Rattle.world_laws.specs as world_laws
