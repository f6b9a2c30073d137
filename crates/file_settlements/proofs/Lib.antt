pub mod Behind
pub mod Plain
pub mod image_appends
pub mod unit_journal
