pub mod LabelTable
pub mod Sharing
