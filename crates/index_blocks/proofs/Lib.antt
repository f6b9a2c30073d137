pub mod StageLaws
pub mod WayLaws
pub mod WriteLaws
pub mod LevelLaws
pub mod ClimbLaws
pub mod MayLaws
pub mod index_bucket
pub mod index_model
