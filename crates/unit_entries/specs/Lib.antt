pub mod Keys
pub mod Rows
pub mod Collecting
pub mod Told
pub mod Reading
pub mod Opening
pub mod Voting
pub use Rattle.block_disk.specs as block_disk
pub use Rattle.careful_write.specs as careful_write
pub use Rattle.sequence_laws.specs.change_set as change_set
pub use Rattle.run_model.specs.commit_protocol as commit_protocol
pub use Rattle.file_base.specs as file_base
pub use Rattle.journal_format.specs.journal_model as journal_model
pub use Rattle.run_model.specs.log_laws as log_laws
pub use Rattle.table_keys.specs.records_model as records_model
pub use Rattle.run_model.specs.recovery_model as recovery_model
pub use Rattle.run_model.specs as run_model
pub use Rattle.run_model.specs.script_model as script_model
pub use Rattle.sequence_laws.specs as sequence_laws
pub use Rattle.tm_types.specs as tm_types
pub use Rattle.run_model.specs.tree_model as tree_model
pub use Rattle.run_model.specs.unit_laws as unit_laws
