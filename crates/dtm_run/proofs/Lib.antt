pub mod TopLemmas
pub mod Leading
pub mod Unused
pub mod Renewing
pub mod Made
pub mod Taking
pub mod Driving
pub mod RackLemmas
mod Emitted
pub mod Entries
pub mod Telling
pub mod Files
mod Contents
pub mod Opened
pub mod Reopening
pub mod Openings
pub mod TakenUp
pub mod Resting
pub mod Asking
pub mod Agreeing
pub mod Days
