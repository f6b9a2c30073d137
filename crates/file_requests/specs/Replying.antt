-- Lines that tell of no node and of no message.
use Rattle.std.specs.Prelude.{◌≡◌, List, [], ◌∷◌, ◌++◌, Bool, true, false, Result, MatchResult}
use Rattle.std.specs.List.{AllByRecursion}
use Rattle.careful_write.specs.declared.down.Down.{Down as DownSaid}
use Rattle.emitter_model.specs.Emitting.{Shown, Emits}
use Rattle.emitter_model.specs.transcript_model.Lines.{Line, Booted, Broken, Crashed, Down, Sent}
use Rattle.node_standing.specs.said_steps.Answers.{is_served}

-- whether by a line no node goes down or comes up, and no message is sent
abbrev pub is_quiet : Line → Bool
is_quiet (Sent number m) = false
is_quiet (Down node cause) = false
is_quiet (Broken cause) = false
is_quiet (Crashed node) = false
is_quiet (Booted node boot) = false
is_quiet line = true

abbrev pub IsQuiet : Line → Type 0
IsQuiet line = is_quiet line ≡ true

-- lines were shown, all of which are so
pub record ShowsQuietly (a b : Shown) : Type 0 where
  pub lines : List Line
  pub shows : Emits a lines b
  pub quiet : AllByRecursion IsQuiet lines

-- an answer that is so, of a request that the lines before do not refuse and no failure of the disk ended
abbrev pub IsPlain : Line → Type 0
IsPlain line = IsQuiet line × (is_served line ≡ true)

-- lines were shown so with such an answer
pub record Replies (a b : Shown) : Type 0 where
  pub lines : List Line
  pub answer : Line
  pub shows : Emits a (lines ++ answer ∷ []) b
  pub quiet : AllByRecursion IsQuiet lines
  pub plain : IsPlain answer

-- so it is where a call was ended by no failure of the disk; else there is no answer
abbrev pub RepliesIf : {T : Type 0} → Result T DownSaid → (a b : Shown) → Type 0
RepliesIf r a b = MatchResult r (λ _. Replies a b) (λ _. ShowsQuietly a b)
