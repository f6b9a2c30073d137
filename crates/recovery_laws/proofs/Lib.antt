mod StateLemmas
pub mod LedLemmas
pub mod LoadingLemmas
pub mod PositionLemmas
pub mod GapLemmas
mod OperationGaps
pub mod MappedLemmas
pub mod EnteringLemmas
mod StayingLemmas
pub mod RecoveringLemmas
mod RowLemmas
pub mod run_model
pub mod world_laws
