pub mod EarlyLemmas
