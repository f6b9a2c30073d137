-- Tasks that tell a node's table an event.
use Rattle.std.proofs.Common.{◌≡◌, ℕ, List, [], ◌∷◌, ◌++◌, Bool, true, false, Some, None, not, map, if◌then◌else◌, refl, ◌∙◌, ap, sym, subst, append_assoc, arith}
use Rattle.std.specs.List.{AllByRecursion}
use Rattle.block_disk.specs.Disk.{CallLog, DiskState}
use Rattle.careful_write.specs.declared.down.Down.{Down}
use Rattle.emitter_model.specs.commit_protocol.Messages.{Message}
use Rattle.emitter_model.specs.commit_protocol.Rows as rows
use Rattle.emitter_model.specs.commit_protocol.Rows.{Event}
use Rattle.emitter_model.specs.Emitting.{Emits, Shown}
use Rattle.emitter_model.specs.transcript_model.Lines as line
use Rattle.emitter_model.specs.transcript_model.Lines.{Cause, Line}
use Rattle.emitter_model.specs.transcript_model.Outside.{Rose}
use Rattle.emitter_model.proofs.EmittingLemmas.{emits_on}
use Rattle.script_lang.specs.script_model.Statements.{Crash, Fuse}
use Rattle.said_steps.specs.run_said.Said.{Said, SaidNode, SaidShared, down_said, is_of_lines, line_said, lines_said}
use Rattle.said_steps.specs.Own.{IsOwn}
use Rattle.world_laws.specs.run_model.World as world
use Rattle.world_laws.specs.run_model.World.{Node}
use Rattle.world_laws.specs.run_model.Answers.{Hears, LosesLink, Restarts, RunsDown, Serves, Takes, Task, Ticks, just, shown_line, task_service, told_rows, touches}
use Rattle.world_laws.specs.run_model.Steps.{count_of}
use Rattle.recovery_units.specs.Uses.{Caused, DiskAdvances}
use Rattle.run_shared.specs.Sharing.{SharedState}
use Rattle.node_requests.specs.node_table.Standing.{Up}
use Rattle.node_requests.specs.node_table.Telling.{IsOfWork, ShowsWork, wire_after, wire_behind}
use Rattle.dtm_node.specs.Causes.{cause_of}
use Rattle.node_requests.specs.node_standing.Keeping.{all_shown}
use Rattle.node_requests.specs.Running.{event_told, shown_first}
use Rattle.node_requests.specs.node_standing.Standing.{NodeState, counts_of, disk_in, disk_of, is_up}
use Rattle.dtm_node.proofs.Answered.{calm_answers, fell_answers, goes_answers, refused_answers}
use Rattle.dtm_node.proofs.Held.{holds_is}
use Rattle.node_requests.specs.node_standing.Telling.{AnswersTask, DiskAdvancesOverCalls, TellsTask, calls_after_task, may_answer_task, refused_task, said_alone, said_node, said_shared, task_said}
use Rattle.dtm_node.proofs.Performing.{kept_fallen, kept_up, rose_of}
use Rattle.node_requests.proofs.SaysLemmas.{all_on, alone_down, calm_not_down, down_behind, lines_calm, lines_on, own_calm}
use Rattle.dtm_node.proofs.Stepping.{IsPlain}

-- What is so of each of them.
pub record IsEventTask (t : Task) (clock : ℕ) (e : Event) : Type 0 where
  pub refused : (s : SaidShared) (n : SaidNode) → refused_task s n t ≡ down_said n
  pub said : (ls : List Line) (l : Line) (k : NodeState) (s : SharedState) → task_said t ls l k s ≡ lines_said ls (said_alone k s)
  pub calls : (ends : Bool) (l : Line) (stops : ℕ) (calls : CallLog) → calls_after_task t ends l stops calls ≡ calls
  pub no_fuse : (writes choice : ℕ) → t ≡ Serves (Fuse writes choice) → ⊥
  pub no_restart : t ≡ Restarts → ⊥
  pub no_crash : t ≡ Serves Crash → ⊥
  pub may_go : may_answer_task t false line.Normal ≡ true
  pub may_end : (cause : Cause) → (task_service t).goes_on ≡ false → may_answer_task t true (line.Broken cause) ≡ true
  pub calm : (up : Bool) → AllByRecursion IsOfWork (shown_first up t)
  pub unsent : (up : Bool) (wire : List Message) → wire_after (shown_first up t) wire ≡ wire
  pub plain : IsPlain (task_service t) (task_service t).goes_on
  pub touches_it : touches (task_service t) ≡ true
  pub early : (s : world.Shared) (n : Node) → (task_service t).refused_before_reading s n ≡ None
  pub late : (s : world.Shared) (n : Node) → (task_service t).refused_after_reading s n ≡ None
  pub rows : (s : world.Shared) (n : Node) → n.clock ≡ clock → (task_service t).rows s n ≡ map shown_line (shown_first true t) ++ told_rows s n (just e)

same_event : (e f : Event) → Some e ≡ Some f → e ≡ f
same_event e f h = cc

pub event_task : (clock : ℕ) (t : Task) (e : Event) → event_told clock t ≡ Some e → IsEventTask t clock e
event_task clock (Serves request) e h = let f : ⊥ = cc in absurd f
event_task clock Restarts e h = let f : ⊥ = cc in absurd f
event_task clock Ticks e h = subst (IsEventTask Ticks clock) (same_event (rows.Clock clock) e h) (record {
  refused = λ s n. refl;
  said = λ ls l k s. refl;
  calls = λ ends l stops calls. refl;
  no_fuse = λ w c q. (let f : ⊥ = cc in f);
  no_restart = λ q. (let f : ⊥ = cc in f);
  no_crash = λ q. (let f : ⊥ = cc in f);
  may_go = refl;
  may_end = λ cause on. (let f : ⊥ = cc in absurd f);
  calm = elim [ true ↦ tt | false ↦ tt ];
  unsent = elim [ true ↦ (λ w. refl) | false ↦ (λ w. refl) ];
  plain = record { powers = refl; occupies = refl; closing = refl; closing_lines = λ n. refl; goes = refl };
  touches_it = refl;
  early = λ s n. refl;
  late = λ s n. refl;
  rows = λ s n c. ap (λ (x : ℕ). told_rows s n (just (rows.Clock x))) c;
})
event_task clock (Takes m) e h = subst (IsEventTask (Takes m) clock) (same_event (rows.Got m) e h) (record {
  refused = λ s n. refl;
  said = λ ls l k s. refl;
  calls = λ ends l stops calls. refl;
  no_fuse = λ w c q. (let f : ⊥ = cc in f);
  no_restart = λ q. (let f : ⊥ = cc in f);
  no_crash = λ q. (let f : ⊥ = cc in f);
  may_go = refl;
  may_end = λ cause on. refl;
  calm = elim [ true ↦ tt | false ↦ tt ];
  unsent = elim [ true ↦ (λ w. refl) | false ↦ (λ w. refl) ];
  plain = record { powers = refl; occupies = refl; closing = refl; closing_lines = λ n. refl; goes = refl };
  touches_it = refl;
  early = λ s n. refl;
  late = λ s n. refl;
  rows = λ s n c. refl;
})
event_task clock (Hears m) e h = subst (IsEventTask (Hears m) clock) (same_event (rows.Got m) e h) (record {
  refused = λ s n. refl;
  said = λ ls l k s. refl;
  calls = λ ends l stops calls. refl;
  no_fuse = λ w c q. (let f : ⊥ = cc in f);
  no_restart = λ q. (let f : ⊥ = cc in f);
  no_crash = λ q. (let f : ⊥ = cc in f);
  may_go = refl;
  may_end = λ cause on. refl;
  calm = elim [ true ↦ (refl, tt) | false ↦ tt ];
  unsent = elim [ true ↦ (λ w. refl) | false ↦ (λ w. refl) ];
  plain = record { powers = refl; occupies = refl; closing = refl; closing_lines = λ n. refl; goes = refl };
  touches_it = refl;
  early = λ s n. refl;
  late = λ s n. refl;
  rows = λ s n c. refl;
})
event_task clock (LosesLink other) e h = subst (IsEventTask (LosesLink other) clock) (same_event (rows.LinkDown other) e h) (record {
  refused = λ s n. refl;
  said = λ ls l k s. refl;
  calls = λ ends l stops calls. refl;
  no_fuse = λ w c q. (let f : ⊥ = cc in f);
  no_restart = λ q. (let f : ⊥ = cc in f);
  no_crash = λ q. (let f : ⊥ = cc in f);
  may_go = refl;
  may_end = λ cause on. (let f : ⊥ = cc in absurd f);
  calm = elim [ true ↦ tt | false ↦ tt ];
  unsent = elim [ true ↦ (λ w. refl) | false ↦ (λ w. refl) ];
  plain = record { powers = refl; occupies = refl; closing = refl; closing_lines = λ n. refl; goes = refl };
  touches_it = refl;
  early = λ s n. refl;
  late = λ s n. refl;
  rows = λ s n c. refl;
})
event_task clock RunsDown e h = subst (IsEventTask RunsDown clock) (same_event rows.RunDown e h) (record {
  refused = λ s n. refl;
  said = λ ls l k s. refl;
  calls = λ ends l stops calls. refl;
  no_fuse = λ w c q. (let f : ⊥ = cc in f);
  no_restart = λ q. (let f : ⊥ = cc in f);
  no_crash = λ q. (let f : ⊥ = cc in f);
  may_go = refl;
  may_end = λ cause on. refl;
  calm = elim [ true ↦ tt | false ↦ tt ];
  unsent = elim [ true ↦ (λ w. refl) | false ↦ (λ w. refl) ];
  plain = record { powers = refl; occupies = refl; closing = refl; closing_lines = λ n. refl; goes = refl };
  touches_it = refl;
  early = λ s n. refl;
  late = λ s n. refl;
  rows = λ s n c. refl;
})

pub passes_of : (d e : DiskState) → DiskAdvances d e → DiskAdvancesOverCalls d e
passes_of d e g = record { size = g.size; faults = g.faults; stops = g.stops; counted = g.counted; told = g.told }

-- what is shared, with another wire, is said so
said_shared_as : (s t : SharedState) (wire : List Message) → t ≡ record s { wire = wire } → said_shared t ≡ record (said_shared s) { wire = wire }
said_shared_as s t wire e = ap said_shared e

module _ (t : Task) (clock : ℕ) (e : Event) (is : IsEventTask t clock e) (name : List ℕ) (old : Up) (before after : SharedState) (a0 a b : Shown) (first : Emits a0 (shown_first true t) a) (says : ShowsWork before after a b) where
  abbrev lines : List Line
  lines = shown_first true t ++ says.lines

  calm : AllByRecursion IsOfWork lines
  calm = all_on IsOfWork (shown_first true t) says.lines (is.calm true) says.work

  emitted : Emits a0 lines b
  emitted = emits_on a0 a b (shown_first true t) says.lines first says.emits

  told_on : (xs ys : List Line) (wire : List Message) → wire_after (xs ++ ys) wire ≡ wire_after ys (wire_after xs wire)
  told_on [] ys wire = refl
  told_on (x ∷ xs) ys wire = told_on xs ys (wire_behind x wire)

  wire_is : wire_after lines before.wire ≡ wire_after says.lines before.wire
  wire_is = told_on (shown_first true t) says.lines before.wire ∙ ap (wire_after says.lines) (is.unsent true before.wire)

  -- what the lines say of a node that is up
  says_up : lines_said lines (said_alone (kept_up name clock old) before) ≡ record { nodes = record { name = name; up = true; unmade = false } ∷ []; shared = said_shared after }
  says_up = lines_calm lines (said_alone (kept_up name clock old) before) calm
      ∙ ap (λ (w : List Message). record { nodes = record { name = name; up = true; unmade = false } ∷ []; shared = record (said_shared before) { wire = w } }) wire_is
      ∙ ap (λ (x : SaidShared). record { nodes = record { name = name; up = true; unmade = false } ∷ []; shared = x }) (sym (said_shared_as before after (wire_after says.lines before.wire) says.shared))

  module _ (new : Up) (goes : DiskAdvances (disk_of old) (disk_of new)) where
    -- it was done
    pub event_tells : TellsTask t false false (kept_up name clock old) before a0 b (kept_up name clock new) after
    event_tells = record {
      lines = lines;
      answer = line.Normal;
      emits = emitted;
      own = own_calm name lines calm;
      refused = λ refusal r. absurd (let q : None ≡ Some refusal = sym (is.refused (said_shared before) (said_node (kept_up name clock old))) ∙ r in (let f : ⊥ = cc in f));
      others = λ none. refl;
      says = is.said lines line.Normal (kept_up name clock old) before ∙ says_up;
      calls = goes.calls ∙ sym (is.calls false line.Normal (disk_of old).stops (disk_of old).calls);
      failures = λ cause i counted. absurd (calm_not_down lines name cause calm i);
      passes = passes_of (disk_of old) (disk_of new) goes;
      quiet = λ s. refl;
      fused = λ writes choice q. absurd (is.no_fuse writes choice q);
      boots = λ q. absurd (is.no_restart q);
      answered = calm_answers t name (refused_task (said_shared before) (said_node (kept_up name clock old)) t) lines line.Normal false calm refl (λ q none. is.no_crash q) (λ none. is.may_go);
      held = λ d unused. (let f : ⊥ = cc in absurd f);
    }

    -- the disk went down in it, which was shown, and answered where the statement ends by it
    pub event_fails : (d : Down) (c : Shown) (ends : Bool) → (task_service t).goes_on ≡ not ends → Caused (Some d) (disk_of old) (disk_of new) → Emits b (line.Down name (cause_of d) ∷ (if ends then line.Broken (cause_of d) ∷ [] else [])) c
        → TellsTask t ends ends (kept_up name clock old) before a0 c (kept_fallen name clock (disk_of new)) after
    event_fails d c ends goes_on caused shows =
        let answer = if ends then line.Broken (cause_of d) else line.Normal in
        record {
          lines = lines ++ line.Down name (cause_of d) ∷ [];
          answer = answer;
          emits = go ends (emits_on a0 b c lines _ emitted shows);
          own = all_on (IsOwn name) lines (line.Down name (cause_of d) ∷ []) (own_calm name lines calm) (refl, tt);
          refused = λ refusal r. absurd (let q : None ≡ Some refusal = sym (is.refused (said_shared before) (said_node (kept_up name clock old))) ∙ r in (let f : ⊥ = cc in f));
          others = λ none. not_of_lines ends;
          says = is.said (lines ++ line.Down name (cause_of d) ∷ []) answer (kept_up name clock old) before ∙ lines_on lines (line.Down name (cause_of d) ∷ []) (said_alone (kept_up name clock old) before)
              ∙ ap (line_said (line.Down name (cause_of d))) says_up ∙ alone_down (record { name = name; up = true; unmade = false }) (said_shared after) (cause_of d);
          calls = goes.calls ∙ sym (is.calls ends answer (disk_of old).stops (disk_of old).calls);
          failures = λ cause i counted. subst (λ x. Rose (count_of x (counts_of (disk_of old))) (count_of x (counts_of (disk_of new)))) (sym (down_behind lines name name cause (cause_of d) calm i)) (rose_of d (disk_of old) (disk_of new) caused counted);
          passes = passes_of (disk_of old) (disk_of new) goes;
          quiet = λ s. quiet_is ends s;
          fused = λ writes choice q. absurd (is.no_fuse writes choice q);
          boots = λ q. absurd (is.no_restart q);
          answered = answers ends goes_on;
          held = λ down unused. (let f : ⊥ = cc in absurd f);
        }
      where
        answers : (x : Bool) → (task_service t).goes_on ≡ not x → AnswersTask t name (refused_task (said_shared before) (said_node (kept_up name clock old)) t) (lines ++ line.Down name (cause_of d) ∷ []) (if x then line.Broken (cause_of d) else line.Normal) x
        answers true on = fell_answers t name (refused_task (said_shared before) (said_node (kept_up name clock old)) t) lines (cause_of d) calm is.no_crash (λ none. is.may_end (cause_of d) on)
        answers false on = goes_answers t name (refused_task (said_shared before) (said_node (kept_up name clock old)) t) lines (cause_of d) calm is.no_crash on (λ none. is.may_go)

        go : (x : Bool) → Emits a0 (lines ++ line.Down name (cause_of d) ∷ (if x then line.Broken (cause_of d) ∷ [] else [])) c → Emits a0 (all_shown x (lines ++ line.Down name (cause_of d) ∷ []) (if x then line.Broken (cause_of d) else line.Normal)) c
        go true m = subst (λ ls. Emits a0 ls c) (sym (append_assoc lines (line.Down name (cause_of d) ∷ []) (line.Broken (cause_of d) ∷ []))) m
        go false m = m

        not_of_lines : (x : Bool) → is_of_lines (if x then line.Broken (cause_of d) else line.Normal) ≡ false
        not_of_lines true = refl
        not_of_lines false = refl

        quiet_is : (x : Bool) (s : Said) → line_said (if x then line.Broken (cause_of d) else line.Normal) s ≡ s
        quiet_is true s = refl
        quiet_is false s = refl

-- at a node that is down
pub event_down : (t : Task) (clock : ℕ) (e : Event) → IsEventTask t clock e → (k : NodeState) (s : SharedState) (a b : Shown) → is_up k.place ≡ false → Emits a (line.NodeDown ∷ []) b → TellsTask t true true k s a b k s
event_down t clock e is k s a b down shows = record {
  lines = [];
  answer = line.NodeDown;
  emits = shows;
  own = tt;
  refused = λ refusal r. (let q : Some line.NodeDown ≡ Some refusal = sym (is.refused (said_shared s) (said_node k) ∙ down_is) ∙ r in (refl, (let z : line.NodeDown ≡ refusal = cc in z), refl, refl));
  others = λ none. absurd (let q : Some line.NodeDown ≡ None = sym (is.refused (said_shared s) (said_node k) ∙ down_is) ∙ none in (let f : ⊥ = cc in f));
  says = is.said [] line.NodeDown k s;
  calls = sym (is.calls true line.NodeDown (disk_in k.place).stops (disk_in k.place).calls);
  failures = λ cause i counted. absurd i;
  passes = record { size = refl; faults = λ c. omega arith; stops = λ c. omega arith; counted = λ c. c; told = refl };
  quiet = λ x. refl;
  fused = λ writes choice q. absurd (is.no_fuse writes choice q);
  boots = λ q. absurd (is.no_restart q);
  answered = refused_answers t k.name (refused_task (said_shared s) (said_node k) t) line.NodeDown true (is.refused (said_shared s) (said_node k) ∙ down_is) refl;
  held = λ d unused. (d, holds_is (disk_in k.place) (disk_in k.place) refl);
}
  where
    down_is : down_said (said_node k) ≡ Some line.NodeDown
    down_is = ap (λ (b : Bool). down_said (record { name = k.name; up = b; unmade = k.unmade })) down
