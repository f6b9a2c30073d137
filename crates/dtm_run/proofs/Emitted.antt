-- What was shown of a line, and what is known of the lines ahead.
use Rattle.std.proofs.Common.{◌≡◌, ℕ, List, [], ◌∷◌, ◌++◌, Bool, true, false, Option, Some, None, refl, ◌∙◌, ap}
use Rattle.std.specs.Option.{option_map, IfSome}
use Rattle.transcript_model.specs.Outside.{behind}
use Rattle.transcript_model.specs.Lines.{Line, lines_text}
use Rattle.transcript_model.specs.Script.{ScriptLine}
use Rattle.emitter_model.specs.Emitting.{Adds, Emits, Shown}
use Rattle.world_laws.specs.run_model.Transcript.{Continues, Entry, lines_then}

-- What one emitted text adds: all of it, or where a write failed a front of it.

whole_added : (a b : Bool) (text added : List ℕ) → a ≡ false → b ≡ false → Adds a b text added → added ≡ text
whole_added false false text added e f h = h
whole_added false true text added e f h = let none : ⊥ = cc in absurd none
whole_added true b text added e f h = let none : ⊥ = cc in absurd none

cut_added : (a b : Bool) (text added : List ℕ) → a ≡ false → b ≡ true → Adds a b text added → (rest : List ℕ) × (text ≡ added ++ rest)
cut_added false true text added e f h = h
cut_added false false text added e f h = let none : ⊥ = cc in absurd none
cut_added true b text added e f h = let none : ⊥ = cc in absurd none

pub emitted_whole : (a b : Shown) (lines : List Line) → Emits a lines b → a.failed ≡ false → b.failed ≡ false → b.text ≡ behind a.text (lines_text a.number lines)
emitted_whole a b lines m e f = m.puts.shows ∙ ap (behind a.text) (whole_added a.failed b.failed _ _ e f m.puts.adds)

-- a front of the lines was shown
pub record IsCutFrom (text : List ℕ) (now new : Option (List ℕ)) : Type 0 where
  pub front : List ℕ
  pub rest : List ℕ
  pub parts : text ≡ front ++ rest
  pub shows : new ≡ behind now front

pub emitted_cut : (a b : Shown) (lines : List Line) → Emits a lines b → a.failed ≡ false → b.failed ≡ true → IsCutFrom (lines_text a.number lines) a.text b.text
emitted_cut a b lines m e f =
    let c = cut_added a.failed b.failed (lines_text a.number lines) m.puts.added e f m.puts.adds in
    record { front = m.puts.added; rest = c.0; parts = c.1; shows = m.puts.shows }

-- What is known of the lines ahead is known of the script.

pub told_at_first : (script : Option (List ScriptLine)) → script ≡ option_map (lines_then []) script
told_at_first None = refl
told_at_first (Some lines) = refl

pub told_next : (script ahead later : Option (List ScriptLine)) (es : List Entry) (e : Entry) → script ≡ option_map (lines_then es) ahead → ahead ≡ option_map (λ more. e.source ∷ more) later → script ≡ option_map (lines_then (e ∷ es)) later
told_next script ahead later es e told next = told ∙ ap (option_map (lines_then es)) next ∙ deeper later
  where
    deeper : (o : Option (List ScriptLine)) → option_map (lines_then es) (option_map (λ more. e.source ∷ more) o) ≡ option_map (lines_then (e ∷ es)) o
    deeper None = refl
    deeper (Some more) = refl

pub continues : (script ahead : Option (List ScriptLine)) (es : List Entry) (P : List ScriptLine → Type 0) → script ≡ option_map (lines_then es) ahead → IfSome ahead P → Continues script es P
continues None ahead es P told h = tt
continues (Some lines) None es P told h = let none : ⊥ = cc in absurd none
continues (Some lines) (Some more) es P told h = let same : lines ≡ lines_then es more = cc in (more, same, h)

pub anything : (ahead : Option (List ScriptLine)) → IfSome ahead (λ more. Unit {0})
anything None = tt
anything (Some more) = tt
