pub mod ChainLemmas
pub mod StandLemmas
pub mod SeqLaws
pub mod CellLemmas
pub mod RawLemmas
pub mod TreeLaws
pub mod HeadLemmas
pub mod LoadLaws
