-- What an emitter has done between two moments.
use Rattle.std.specs.Prelude.{◌≡◌, ℕ, ◌≤◌, List, [], ◌++◌, Bool, true, false, Option}
use Rattle.std.specs.Option.{option_map}
use Rattle.transcript_model.specs.Outside.{behind, Rose}
use Rattle.transcript_model.specs.Lines.{Line, lines_text}
use Rattle.emitter_model.specs.Tally.{Tally, tallied_by}

-- what an emitter shows: its line number, the text so far where it is known, its sink's count of faults, whether a write failed, and what is counted of the
-- lines so far where it is
pub record Shown : Type 0 where
  pub number : ℕ
  pub text : Option (List ℕ)
  pub faults : ℕ
  pub failed : Bool
  pub tally : Option Tally

-- what a step adds of a text, by whether a write had failed before it and after it: all of it; where a write failed in it a front of it;
-- after a failure nothing; and no failure is forgotten
abbrev pub Adds : Bool → Bool → List ℕ → List ℕ → Type 0
Adds false false text added = added ≡ text
Adds false true text added = (rest : List ℕ) × (text ≡ added ++ rest)
Adds true true text added = added ≡ []
Adds true false text added = ⊥

-- from old on this text was put
pub record Puts (old : Shown) (text : List ℕ) (new : Shown) : Type 0 where
  pub number : new.number ≡ old.number
  pub added : List ℕ
  pub shows : new.text ≡ behind old.text added
  pub adds : Adds old.failed new.failed text added
  pub counts : old.faults ≤ new.faults
  pub cause : old.failed ≡ false → new.failed ≡ true → Rose old.faults new.faults

-- from old on these lines were emitted
pub record Emits (old : Shown) (lines : List Line) (new : Shown) : Type 0 where
  pub puts : Puts old (lines_text old.number lines) new
  pub counted : new.tally ≡ option_map (tallied_by lines) old.tally

-- what every step keeps: the count does not fall, and a failure has its cause
pub record Since (old new : Shown) : Type 0 where
  pub counts : old.faults ≤ new.faults
  pub cause : old.failed ≡ false → new.failed ≡ true → Rose old.faults new.faults

-- lines that were emitted in two steps were emitted in one
abbrev pub EmittingComposes : Type 0
EmittingComposes = (a b c : Shown) (first second : List Line) → Emits a first b → Emits b second c → Emits a (first ++ second) c
