pub mod Slots
pub mod Handing
pub use Rattle.commit_protocol.specs as commit_protocol
