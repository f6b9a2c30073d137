-- The text for a day by how it ended.
use Rattle.std.specs.Prelude.{ℕ, List}
use Rattle.emitter_model.specs.Tally.{Tally}
use Rattle.day_script.specs.day_model.Pieces.{dumps}
use Rattle.day_script.specs.day_model.Days.{answer_text, summary}
use Rattle.day_tally.specs.declared.counts.Ended.{Ended}
use Rattle.day_tally.specs.declared.counts.Ended.TheVariants as ended

abbrev pub end_text : (count : ℕ) → Tally → Ended → (counts : List ℕ) → List ℕ
end_text count t ended.Whole counts = summary count t.committed dumps counts
end_text count t ended.Stopped counts = answer_text t.last
