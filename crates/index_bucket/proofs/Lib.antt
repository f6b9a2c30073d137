pub mod Places
pub mod EntryLaws
pub mod GrowLaws
pub mod AddedLaws
pub mod HandLaws
pub mod HeldLaws
pub mod ParentLaws
pub mod index_model
