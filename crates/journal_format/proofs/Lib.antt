pub mod NameForms
pub mod IdSpellings
pub mod FormLaws
pub mod EntryLaws
pub mod FrontLaws
pub mod Decoding
