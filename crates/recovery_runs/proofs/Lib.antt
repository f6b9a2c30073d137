pub mod LastImageLemmas
pub mod Awaited
pub mod CommittedLemmas
mod FilesKept
mod ToldKept
pub mod RunLemmas
mod ShownLemmas
mod AnsweredLemmas
pub mod PromiseLemmas
pub mod run_chains
