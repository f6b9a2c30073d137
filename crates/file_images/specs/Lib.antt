pub mod Images
pub mod Files
pub mod Laws
pub use Rattle.save_laws.specs.bucket_page as bucket_page
pub use Rattle.unit_entries.specs.careful_write as careful_write
pub use Rattle.unit_entries.specs.change_set as change_set
pub use Rattle.unit_entries.specs.commit_protocol as commit_protocol
pub use Rattle.save_laws.specs.index_blocks as index_blocks
pub use Rattle.save_laws.specs.index_bucket as index_bucket
pub use Rattle.save_laws.specs.index_model as index_model
pub use Rattle.save_laws.specs.indexed_file as indexed_file
pub use Rattle.save_laws.specs.indexed_tree as indexed_tree
pub use Rattle.unit_entries.specs.journal_model as journal_model
pub use Rattle.unit_entries.specs.log_laws as log_laws
pub use Rattle.save_laws.specs.record_files as record_files
pub use Rattle.unit_entries.specs.recovery_model as recovery_model
pub use Rattle.save_laws.specs.relative_file as relative_file
pub use Rattle.unit_entries.specs.run_model as run_model
pub use Rattle.save_laws.specs as save_laws
pub use Rattle.unit_entries.specs.script_model as script_model
pub use Rattle.save_laws.specs.seq_file as seq_file
pub use Rattle.unit_entries.specs.sequence_laws as sequence_laws
pub use Rattle.unit_entries.specs.tree_model as tree_model
pub use Rattle.unit_entries.specs as unit_entries
pub use Rattle.unit_entries.specs.unit_laws as unit_laws
