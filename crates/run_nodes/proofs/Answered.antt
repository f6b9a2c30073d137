-- How each statement is answered.
use Rattle.std.specs.Prelude.{◌||◌, ◌&&◌}
use Rattle.std.proofs.Common.{◌≡◌, ℕ, List, [], ◌∷◌, ◌++◌, Bool, true, false, Option, Some, None, inl, inr, refl, sym, ◌∙◌, ap, subst}
use Rattle.emitter_model.specs.commit_protocol.World.{In}
use Rattle.emitter_model.specs.transcript_model.Lines as line
use Rattle.emitter_model.specs.transcript_model.Lines.{Line}
use Rattle.script_lang.specs.script_model.Statements.{At, Boot, Clock, Crash, Fuse, Init, Recover, Request, Statement}
use Rattle.said_steps.specs.run_said.Said.{Said, is_of_lines, refused_by_said}
use Rattle.said_steps.specs.run_model.Answers.{service, touches}
use Rattle.said_steps.specs.Answers.{FallsTold, answers_so, ends_boot, ends_turns, goes_on, is_answer, is_broken, is_lacking, is_normal, is_served, is_turn, may_answer}
use Rattle.said_steps.specs.Calls.{spoken_to}
use Rattle.said_steps.proofs.Falls.{falls_none}
use Rattle.said_steps.proofs.Refusals.{statement_of_lines}
use Rattle.run_nodes.specs.Calls.{IsAnswered}

-- Answers of each kind are answers.

pub refusal_answers : (l : Line) → is_of_lines l ≡ true → is_answer l ≡ true
refusal_answers line.NoSuchNode e = refl
refusal_answers line.NodeDown e = refl
refusal_answers line.NodeUp e = refl
refusal_answers line.VolumeInUse e = refl
refusal_answers line.NotInitialized e = refl
refusal_answers line.NoSuchMessage e = refl
refusal_answers line.BadLabel e = refl
refusal_answers _ e = let none : ⊥ = cc in absurd none

refusal_unbroken : (l : Line) → is_of_lines l ≡ true → is_broken l ≡ false
refusal_unbroken (line.Broken cause) e = let none : ⊥ = cc in absurd none
refusal_unbroken _ e = refl

normal_answers : (l : Line) → is_normal l ≡ true → is_answer l ≡ true
normal_answers line.Normal e = refl
normal_answers _ e = let none : ⊥ = cc in absurd none

pub broken_answers : (l : Line) → is_broken l ≡ true → is_answer l ≡ true
broken_answers (line.Broken cause) e = refl
broken_answers _ e = let none : ⊥ = cc in absurd none

pub broken_turn : (l : Line) → is_broken l ≡ true → is_turn l ≡ true
broken_turn (line.Broken cause) e = refl
broken_turn _ e = let none : ⊥ = cc in absurd none

pub ends_turn : (l : Line) → is_broken l ≡ true → ends_turns l ≡ true
ends_turn (line.Broken cause) e = refl
ends_turn _ e = let none : ⊥ = cc in absurd none

either : (a b : Bool) (P : Type 0) → (a ≡ true → P) → (b ≡ true → P) → a || b ≡ true → P
either true b P f g e = f refl
either false b P f g e = g e

left : (a b : Bool) → a && b ≡ true → a ≡ true
left true b e = refl
left false b e = let none : ⊥ = cc in absurd none

turn_answers : (l : Line) → is_turn l ≡ true → is_answer l ≡ true
turn_answers l e = either (is_normal l) (is_broken l) (is_answer l ≡ true) (normal_answers l) (broken_answers l) e

boot_answers : (l : Line) → ends_boot l ≡ true → is_answer l ≡ true
boot_answers line.NoMemory e = refl
boot_answers (line.NoVolume node condition block) e = refl
boot_answers (line.QuotaExceeded quota limit) e = refl
boot_answers (line.Broken cause) e = refl
boot_answers _ e = let none : ⊥ = cc in absurd none

served_answers : (l : Line) → is_served l ≡ true → is_answer l ≡ true
served_answers line.NoSuchNode e = refl
served_answers line.NodeDown e = refl
served_answers line.NodeUp e = refl
served_answers line.VolumeInUse e = refl
served_answers line.NotInitialized e = refl
served_answers (line.NotInitializedAt node) e = refl
served_answers line.NoSuchMessage e = refl
served_answers line.BadLabel e = refl
served_answers (line.InDoubt serial node) e = refl
served_answers (line.NoVolume node condition block) e = refl
served_answers line.NoMemory e = refl
served_answers (line.Broken cause) e = refl
served_answers _ e = e

up_answers : (request : Request) (l : Line) → (is_served l || (is_broken l && touches (service request))) ≡ true → is_answer l ≡ true
up_answers request l e = either (is_served l) (is_broken l && touches (service request)) (is_answer l ≡ true) (served_answers l) (λ b. broken_answers l (left (is_broken l) (touches (service request)) b)) e

init_answers : (slots journal : ℕ) (l : Line) → may_answer (Init slots journal) l ≡ true → is_answer l ≡ true
init_answers slots journal line.BadParameter e = refl
init_answers slots journal l e = turn_answers l e

boots_answer : (l : Line) → may_answer Boot l ≡ true → is_answer l ≡ true
boots_answer (line.NormalCount boot) e = refl
boots_answer l e = boot_answers l e

lacking_answers : (l : Line) → is_lacking l ≡ true → is_answer l ≡ true
lacking_answers line.NoMemory e = refl
lacking_answers _ e = let none : ⊥ = cc in absurd none

pub request_answers : (request : Request) (l : Line) → may_answer request l ≡ true → is_answer l ≡ true
request_answers (Init slots journal) l e = init_answers slots journal l e
request_answers Boot l e = boots_answer l e
request_answers (Fuse writes choice) l e = normal_answers l e
request_answers Crash l e = normal_answers l e
request_answers (Clock now) l e = normal_answers l e
request_answers (Recover file way) l e = either (is_lacking l) (is_served l || (is_broken l && touches (service (Recover file way)))) (is_answer l ≡ true) (lacking_answers l) (up_answers (Recover file way) l) e
request_answers request l e = up_answers request l e

-- Statements.

-- one that is refused by what was said before
pub answered_refused : (said : Said) (st : Statement) (refusal : Line) → refused_by_said said st ≡ Some refusal → IsAnswered said st (refusal ∷ [])
answered_refused said st refusal e = record {
  events = [];
  answer = refusal;
  shows = refl;
  is = refusal_answers refusal of;
  may = λ none. absurd (clash none);
  falls = λ on. falls_none (spoken_to said st) [] refusal (λ node cause i. i) (refusal_unbroken refusal of);
  crashes = λ node i. absurd i;
  crash = λ node same none. absurd (clash none);
}
  where
    of : is_of_lines refusal ≡ true
    of = statement_of_lines said st refusal e

    clash : refused_by_said said st ≡ None → ⊥
    clash none = let q : Some refusal ≡ None = sym e ∙ none in (let f : ⊥ = cc in f)

-- one that is no CRASH
pub answered_so : (said : Said) (st : Statement) (events : List Line) (answer : Line) → is_answer answer ≡ true → (refused_by_said said st ≡ None → answers_so said st (events ++ answer ∷ []) answer ≡ true) → (goes_on st ≡ false → FallsTold (spoken_to said st) events answer)
    → ((node : List ℕ) → In (line.Crashed node) events → ⊥) → ((node : List ℕ) → st ≡ At node Crash → ⊥) → IsAnswered said st (events ++ answer ∷ [])
answered_so said st events answer is may falls uncrashed no_crash = record {
  events = events;
  answer = answer;
  shows = refl;
  is = is;
  may = may;
  falls = falls;
  crashes = λ node i. absurd (uncrashed node i);
  crash = λ node same none. absurd (no_crash node same);
}
