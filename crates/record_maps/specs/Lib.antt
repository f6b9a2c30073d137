pub mod Orders
pub mod Maps
