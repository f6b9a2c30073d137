-- A line of a script, by what it says.
use Rattle.std.proofs.Common.{◌≡◌, ℕ, ◌+◌, ◌≤◌, length, List, [], ◌∷◌, ◌++◌, true, false, arith, refl, sym, ◌∙◌, ap}
use Rattle.std.specs.Prelude.{map}
use Rattle.world_laws.specs.transcript_model.Lines as line
use Rattle.world_laws.specs.transcript_model.Lines.{lines_text, Line as Line_}
use Rattle.world_laws.specs.transcript_model.Script.{ScriptLine, size_of}
use Rattle.script_lang.specs.script_model.Statements.{Statement, Blank, Says, Bad}
use Rattle.script_lang.specs.script_model.Grammar.{reading}
use Rattle.world_laws.specs.run_model.World.{World}
use Rattle.world_laws.specs.run_model.Transcript.{Entry, BadLine, number_after, text_of}
use Rattle.reference_world.specs.declared.line.Line.{Line}
use Rattle.reference_run.specs.declared.rack.Rack.{Rack}
use Rattle.reference_run.specs.declared.script.Reading.{Reading as Kept}
use Rattle.reference_run.specs.Scripts.{Stands, GoesOn, Turns}
use Rattle.reference_world.specs.Standing.{line_of}
use Rattle.reference_run.specs.Served.{IsShown, world_of}
use Rattle.reference_law.specs.Whole.{run_from, entry, is_in_limits}
use Rattle.reference_law.proofs.RunLemmas.{says}
use Rattle.reference_run.proofs.CountLemmas.{shown_count}

pub runs_blank : (w : World) (es : List Entry) (source : ScriptLine) (more : List ScriptLine) → is_in_limits es source ≡ true → reading source.text ≡ Blank →
    run_from w es (source ∷ more) ≡ run_from w (entry source [] ∷ es) more
runs_blank w es source more limits e = rw (limits, e) refl

pub runs_bad : (w : World) (es : List Entry) (source : ScriptLine) (more : List ScriptLine) (column : ℕ) → is_in_limits es source ≡ true → reading source.text ≡ Bad column →
    run_from w es (source ∷ more) ≡ record { exit = BadLine; text = text_of es ++ lines_text (number_after es) (line.BadLine column ∷ []) }
runs_bad w es source more column limits e = rw (limits, e) refl

pub runs_said : (es : List Entry) (source : ScriptLine) (more : List ScriptLine) (s : Statement) (old new : Rack) (lines : List Line) → is_in_limits es source ≡ true → reading source.text ≡ Says s → IsShown s (world_of old) lines (world_of new) →
    run_from (world_of old) es (source ∷ more) ≡ run_from (world_of new) (entry source (map line_of lines) ∷ es) more
runs_said es source more s old new lines limits e served =
    says (world_of old) es source more s (map line_of lines) (world_of new) limits e (λ i. record { lines = sym served.lines i; world = sym served.world i })

-- what is kept behind one more line
passed : (old new : Kept) (es : List Entry) (source : ScriptLine) (lines : List Line_) → Stands old es →
    new.number ≡ old.number + 1 → new.size ≡ old.size + size_of source → new.text.items ≡ old.text.items ++ lines_text old.number lines → Stands new (entry source lines ∷ es)
passed old new es source lines s k z t = record {
  number = omega (arith, s.number, k);
  size = z ∙ ap (λ x. x + size_of source) s.size;
  text = t ∙ rw (s.text, s.number) refl;
}

no_more : (xs : List ℕ) → xs ≡ xs ++ []
no_more [] = refl
no_more (x ∷ xs) = ap (λ ys. x ∷ ys) (no_more xs)

pub turned_blank : (old new : Kept) (es : List Entry) (source : ScriptLine) (more : List ScriptLine) → Stands old es → is_in_limits es source ≡ true →
    Blank ≡ reading source.text → new.number ≡ old.number + 1 → new.size ≡ old.size + size_of source →
    new.text ≡ old.text → new.rack ≡ old.rack → GoesOn old es source more new
turned_blank old new es source more s limits reads k z t u = record {
  lines = [];
  stands = passed old new es source [] s k z (ap (λ x. x.items) t ∙ no_more old.text.items);
  runs = runs_blank (world_of old.rack) es source more limits (sym reads) ∙ rw u refl;
}

pub turned_said : (old new : Kept) (es : List Entry) (source : ScriptLine) (more : List ScriptLine) (st : Statement) (lines : List Line) → Stands old es → is_in_limits es source ≡ true →
    Says st ≡ reading source.text → IsShown st (world_of old.rack) lines (world_of new.rack) → new.number ≡ old.number + 1 → new.size ≡ old.size + size_of source →
    new.text.items ≡ old.text.items ++ lines_text old.number (map line_of lines) → GoesOn old es source more new
turned_said old new es source more st lines s limits reads served k z t = record {
  lines = map line_of lines;
  stands = passed old new es source (map line_of lines) s k z t;
  runs = runs_said es source more st old.rack new.rack lines limits (sym reads) served;
}

pub turned_bad : (old new : Kept) (es : List Entry) (source : ScriptLine) (more : List ScriptLine) (column : ℕ) → Stands old es → is_in_limits es source ≡ true →
    Bad column ≡ reading source.text → new.text.items ≡ old.text.items ++ lines_text old.number (line.BadLine column ∷ []) → Turns old es source more false new
turned_bad old new es source more column s limits reads t = runs_bad (world_of old.rack) es source more column limits (sym reads)
    ∙ ap (λ x. record { exit = BadLine; text = x }) (rw (t, s.text, s.number) refl)

-- no statement makes a node
pub few_shown : (old new : Rack) (st : Statement) (lines : List Line) → IsShown st (world_of old) lines (world_of new) → length (world_of old).nodes ≤ 8 → length (world_of new).nodes ≤ 8
few_shown old new st lines served few = let e = ap (λ (w : World). length w.nodes) served.world ∙ shown_count st (world_of old) in omega (arith, e, few)
