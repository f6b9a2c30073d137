pub mod Aborting
pub mod Making
pub mod State
pub mod Reading
pub mod Calls
pub mod Truncating
pub mod Voting
pub use Rattle.kept_files.specs.file_settlements as file_settlements
pub use Rattle.kept_files.specs as kept_files
pub use Rattle.key_changes.specs as key_changes
pub use Rattle.unit_restarts.specs.unit_aborts as unit_aborts
pub use Rattle.key_changes.specs.unit_cuts as unit_cuts
pub use Rattle.unit_journal.specs as unit_journal
pub use Rattle.unit_restarts.specs as unit_restarts
pub use Rattle.unit_restarts.specs.unit_returns as unit_returns
pub use Rattle.unit_votes.specs as unit_votes
