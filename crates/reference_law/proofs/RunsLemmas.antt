-- What comes of a script is a run of it.
use Rattle.std.proofs.Common.{◌≡◌, ℕ, ◌+◌, ◌<◌, ◌≤◌, List, [], ◌∷◌, ◌++◌, Bool, true, false, Option, Some, None, if◌then◌else◌, nat_le, length, append_assoc, arith, inl, inr, refl, sym, subst, ◌∙◌, ap, ⊎_elim}
use Rattle.std.specs.Prelude.{◌&&◌, ◌⊎◌}
use Rattle.std.proofs.lemmas.Bool.{cases_lt}
use Rattle.std.proofs.lemmas.Bool.Decides.{nat_tests}
use Rattle.run_model.specs.transcript_model.Outside.{behind}
use Rattle.run_model.specs.transcript_model.Lines as line
use Rattle.run_model.specs.transcript_model.Lines.{Line, Cause, lines_text}
use Rattle.run_model.specs.transcript_model.Script.{ScriptLine, lines_of, size_of}
use Rattle.run_model.specs.script_model.Statements.{Statement, At, Deliver, LinkDown, Settle, Reading, Blank, Says, Bad}
use Rattle.run_model.specs.script_model.Grammar.{reading}
use Rattle.run_model.specs.World.{World, Shared, Node, DiskCounts, Lost, find_node}
use Rattle.run_model.specs.Answers.{Task, Hears}
use Rattle.run_model.specs.Steps.{Whole, TaskAllowed, task_effect}
use Rattle.run_model.specs.Statements.{Part, Does, Asks, PartEffect, Question, Heard, Unanswered, Doubtful, Onward, Phase, Phases, Begins, Step, Parts, Then, Allowed, AllowedAt, AllowedOf, NoneFalls, RoseAt, begun_with, done_at, part_effect, phases_of, put_into, no_node, question, question_effect, refused_at_once, stops_at}
use Rattle.run_model.specs.Transcript.{Entry, Ran, Legal, Turn, AreInLimits, IsInLimits, BadLine, TooLong, number_after, size_before, text_of, lines_then}
use Rattle.reference_law.specs.Whole.{Ended, StatementShown, TranscriptsAreRuns, then_shown, parts_shown, phases_shown, begins_shown, shown_whole, run_from, opening, entry, ended_by, is_in_limits}

-- A statement, each part of which is done whole, is a step.

-- what is shown leaves the counts of the disks, and is as parts say it, whatever the counts are behind the statement
record ShowsParts (shown : StatementShown) (counts : List DiskCounts) (says : List DiskCounts → List Line → Line → World → Type 0) : Type 0 where
  events : List Line
  answer : Line
  shows : shown.lines ≡ events ++ answer ∷ []
  disks : shown.world.disks ≡ counts
  does : (after : List DiskCounts) → says after events answer shown.world

-- a part, and what comes behind it
then_says : (lines : List Line) (answer : Line) (ends : Bool) (world : World) (rest : StatementShown) (more : List DiskCounts → World → Line → List Line → Line → World → Type 0) →
    ShowsParts rest world.disks (λ after said last end. more after world answer said last end) →
    (let e : PartEffect = record { lines = lines; answer = answer; ends = ends; world = world } in
    ShowsParts (then_shown e rest) world.disks (λ after said last end. Then e (more after) said last end))
then_says lines answer true world rest more behind = record { events = lines; answer = answer; shows = refl; disks = refl; does = λ after. (refl, refl, refl) }
then_says lines answer false world rest more behind = record {
  events = lines ++ behind.events;
  answer = behind.answer;
  shows = ap (λ xs. lines ++ xs) behind.shows ∙ sym (append_assoc lines behind.events (behind.answer ∷ []));
  disks = behind.disks;
  does = λ after. (behind.events, refl, behind.does after);
}

done_keeps : (w : World) (node : List ℕ) (t : Task) → (done_at w node t (Whole Lost)).world.disks ≡ w.disks
done_keeps w node t = go (find_node node w.nodes)
  where
    go : (o : Option Node) → (elim o as (λ _. PartEffect) [ Some n ↦ put_into w node (task_effect w.shared (stops_at node w) n t (Whole Lost)) | None ↦ no_node w ]).world.disks ≡ w.disks
    go (Some n) = refl
    go None = refl

question_keeps : (w : World) (q : Question) → (question_effect w (Whole Lost) q).world.disks ≡ w.disks
question_keeps w (Heard m) = done_keeps w m.to (Hears m)
question_keeps w Unanswered = refl
question_keeps w (Doubtful k) = refl

part_keeps : (w : World) (p : Part) → (part_effect w p (Whole Lost)).world.disks ≡ w.disks
part_keeps w (Does node t) = done_keeps w node t
part_keeps w (Asks node serial) = question_keeps w (question w node serial)

done_allowed : (w : World) (node : List ℕ) (t : Task) (after : List DiskCounts) → AllowedAt w node t after (Whole Lost)
done_allowed w node t after = go (find_node node w.nodes)
  where
    go : (o : Option Node) → elim o as (λ _. Type 0) [ Some n ↦ TaskAllowed w.shared (stops_at node w) n t (λ cause. RoseAt w node cause after) (Whole Lost) | None ↦ Unit {0} ]
    go (Some n) = tt
    go None = tt

question_allowed : (w : World) (after : List DiskCounts) (q : Question) → AllowedOf w after (Whole Lost) q
question_allowed w after (Heard m) = done_allowed w m.to (Hears m) after
question_allowed w after Unanswered = tt
question_allowed w after (Doubtful k) = tt

part_allowed : (w : World) (p : Part) (after : List DiskCounts) → Allowed w p after (Whole Lost)
part_allowed w (Does node t) after = done_allowed w node t after
part_allowed w (Asks node serial) after = question_allowed w after (question w node serial)

module _ (behind : World → Line → StatementShown) (more : List DiskCounts → Onward) (says : (w : World) (given : Line) → ShowsParts (behind w given) w.disks (λ after said last end. more after w given said last end)) where
  parts_say : (ps : List Part) (w : World) (given : Line) → ShowsParts (parts_shown ps behind w given) w.disks (λ after said last end. Parts ps after (more after) w given said last end)
  parts_say [] w given = says w given
  parts_say (p ∷ ps) w given =
      let e : PartEffect = part_effect w p (Whole Lost) in
      let part = then_says e.lines e.answer e.ends e.world (parts_shown ps behind e.world e.answer) (λ after mid said rest last end. Parts ps after (more after) mid said rest last end) (parts_say ps e.world e.answer) in
      record { events = part.events; answer = part.answer; shows = part.shows; disks = part.disks ∙ part_keeps w p; does = λ after. (Whole Lost, part_allowed w p after, part.does after) }

phases_say : (ps : List Phase) (w : World) (given : Line) → ShowsParts (phases_shown ps w given) w.disks (λ after said last end. Phases ps after w given said last end)
phases_say [] w given = record { events = []; answer = given; shows = refl; disks = refl; does = λ after. (refl, refl, refl) }
phases_say (p ∷ ps) w given = parts_say (phases_shown ps) (λ after. Phases ps after) (phases_say ps) (p w) w given

none_falls : (ds : List DiskCounts) → NoneFalls ds ds
none_falls [] = tt
none_falls (d ∷ ds) = (omega arith, omega arith, none_falls ds)

-- what begins leaves the counts of the disks
begun_keeps : (s : Statement) (w : World) → (begun_with s w).disks ≡ w.disks
begun_keeps Settle w = refl
begun_keeps (At node request) w = refl
begun_keeps (Deliver number) w = refl
begun_keeps (LinkDown a b) w = refl

step_as : (w : World) (s : Statement) (o : Option Line) → refused_at_once w s ≡ o → Step w s (begins_shown o w s).lines (begins_shown o w s).world
step_as w s (Some refusal) e = record {
  events = [];
  answer = refusal;
  world = w;
  does = subst (λ r. Begins r (Phases (phases_of s) w.disks (begun_with s w) line.Normal) w [] refusal w) (sym e) (refl, refl, refl);
  counts = none_falls w.disks;
  shows = refl;
  goes = refl;
}
step_as w s None e =
    let shown = phases_shown (phases_of s) (begun_with s w) line.Normal in
    let phases = phases_say (phases_of s) (begun_with s w) line.Normal in
    record {
      events = phases.events;
      answer = phases.answer;
      world = shown.world;
      does = subst (λ r. Begins r (Phases (phases_of s) shown.world.disks (begun_with s w) line.Normal) w phases.events phases.answer shown.world) (sym e) (phases.does shown.world.disks);
      counts = subst (NoneFalls w.disks) (sym (phases.disks ∙ begun_keeps s w)) (none_falls w.disks);
      shows = phases.shows;
      goes = refl;
    }

step_whole : (w : World) (s : Statement) → Step w s (shown_whole w s).lines (shown_whole w s).world
step_whole w s = step_as w s (refused_at_once w s) refl

-- The limits, by their tests.

first_within : (a k : ℕ) (s t : Bool) → ((nat_le a k && s) && t) ≡ true → a ≤ k
first_within a k s t e = grind (arith, nat_tests)

second_within : (b l : ℕ) (r t : Bool) → ((r && nat_le b l) && t) ≡ true → b ≤ l
second_within b l r t e = grind (arith, nat_tests)

third_within : (c m : ℕ) (r s : Bool) → ((r && s) && nat_le c m) ≡ true → c ≤ m
third_within c m r s e = grind (arith, nat_tests)

none_past : (a k b l c m : ℕ) → ((nat_le a k && nat_le b l) && nat_le c m) ≡ false → a ≤ k → b ≤ l → c ≤ m → ⊥
none_past a k b l c m e f s t = grind (arith, nat_tests)

one_past : (a k b l c m : ℕ) → ((nat_le a k && nat_le b l) && nat_le c m) ≡ false → ((k < a) ⊎ (l < b)) ⊎ (m < c)
one_past a k b l c m e = ⊎_elim (λ past. inl (inl past))
    (λ first. ⊎_elim (λ past. inl (inr past)) (λ second. ⊎_elim (λ past. inr past) (λ third. absurd (none_past a k b l c m e first second third)) (cases_lt m c)) (cases_lt l b)) (cases_lt k a)

within : (es : List Entry) (source : ScriptLine) → is_in_limits es source ≡ true → IsInLimits es source
within es source e =
    let line_test : Bool = nat_le (length source.text) 20000 in
    let script_test : Bool = nat_le (size_before es + size_of source) 67108864 in
    let number_test : Bool = nat_le (number_after es) 1000000 in (
      record {
        line_limit = first_within (length source.text) 20000 script_test number_test e;
        script_limit = second_within (size_before es + size_of source) 67108864 line_test number_test e;
      },
      third_within (number_after es) 1000000 line_test script_test e,
    )

-- Lines, one after another.

module _ (start : World) (before : Option (List ℕ)) where
  -- what comes of these lines is a run of the script of which they are the rest
  abbrev RanFrom : World → List Entry → List ScriptLine → Type 0
  RanFrom w es lines = Ran start (Some (lines_then es lines)) before (behind before (run_from w es lines).text) (run_from w es lines).exit

  module _ (source : ScriptLine) (more : List ScriptLine) (w : World) (es : List Entry) (next : (v : World) (ds : List Entry) → Legal start ds v → AreInLimits ds → RanFrom v ds more) (legal : Legal start es w) (limits : AreInLimits es) where
    abbrev RanAs : Ended → Type 0
    RanAs e = Ran start (Some (lines_then es (source ∷ more))) before (behind before e.text) e.exit

    abbrev read : Reading → Ended
    read r = elim r [
      | Blank ↦ run_from w (entry source [] ∷ es) more
      | Says s ↦ run_from (shown_whole w s).world (entry source (shown_whole w s).lines ∷ es) more
      | Bad column ↦ ended_by BadLine (line.BadLine column) es
    ]

    read_runs : (r : Reading) → reading source.text ≡ r → IsInLimits es source → RanAs (read r)
    read_runs Blank is in_limits = next w (entry source [] ∷ es) (w, legal, subst (λ r. Turn w r [] w) (sym is) (refl, refl)) (in_limits, limits)
    read_runs (Says s) is in_limits = next (shown_whole w s).world (entry source (shown_whole w s).lines ∷ es)
        (w, legal, subst (λ r. Turn w r (shown_whole w s).lines (shown_whole w s).world) (sym is) (step_whole w s)) (in_limits, limits)
    read_runs (Bad column) is in_limits = record {
      entries = es;
      closing = w;
      legal = legal;
      in_limits = limits;
      added = text_of es ++ lines_text (number_after es) (line.BadLine column ∷ []);
      shows = refl;
      ends = (column, (source ∷ more, refl, (in_limits, is)), refl);
    }

    limited_runs : (b : Bool) → is_in_limits es source ≡ b → RanAs (if b then read (reading source.text) else ended_by TooLong line.TooLong es)
    limited_runs true is = read_runs (reading source.text) refl (within es source is)
    limited_runs false is = record {
      entries = es;
      closing = w;
      legal = legal;
      in_limits = limits;
      added = text_of es ++ lines_text (number_after es) (line.TooLong ∷ []);
      shows = refl;
      ends = ((source ∷ more, refl, one_past (length source.text) 20000 (size_before es + size_of source) 67108864 (number_after es) 1000000 is), refl);
    }

    line_runs : RanFrom w es (source ∷ more)
    line_runs = limited_runs (is_in_limits es source) refl

  runs : (lines : List ScriptLine) (w : World) (es : List Entry) → Legal start es w → AreInLimits es → RanFrom w es lines
  runs [] w es legal limits = record { entries = es; closing = w; legal = legal; in_limits = limits; added = text_of es; shows = refl; ends = (([], refl, refl), refl) }
  runs (source ∷ more) w es legal limits = line_runs source more w es (λ v ds. runs more v ds) legal limits

pub transcripts_are_runs : TranscriptsAreRuns
transcripts_are_runs ps script before = runs (opening ps) before (lines_of script) (opening ps) [] refl tt
