pub mod ImageLemmas
mod DayLemmas
