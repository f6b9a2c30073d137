pub mod OrderLemmas
pub mod BegunLemmas
