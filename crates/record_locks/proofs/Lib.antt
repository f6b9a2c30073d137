pub mod LockLemmas
pub mod LogLemmas
pub mod LogTables
