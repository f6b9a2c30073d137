pub mod Messages
pub mod Network
pub use Rattle.commit_protocol.specs as commit_protocol
