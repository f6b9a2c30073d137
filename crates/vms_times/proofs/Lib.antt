pub mod DayLemmas
pub mod DigitLemmas
pub mod TimeLemmas
