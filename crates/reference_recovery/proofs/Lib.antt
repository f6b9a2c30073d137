pub mod RollingLemmas
pub mod LineLemmas
pub mod RefusalLemmas
pub mod RoomLemmas
pub mod NumberLemmas
