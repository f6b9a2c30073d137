pub mod RestartLemmas
pub mod RoomLemmas
pub mod unit_aborts
