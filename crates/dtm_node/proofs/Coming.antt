-- An event comes to a node that is up, or to one that is down.
use Rattle.std.proofs.Common.{◌≡◌, ◌⊎◌, inl, inr, ℕ, List, [], ◌∷◌, ◌++◌, Bool, true, false, Some, None, Result, Ok, Err, not, map, is_some, if◌then◌else◌, refl, ◌∙◌, ap, sym, subst, arith}
use Rattle.std.specs.Prelude.{◌||◌}
use Rattle.block_disk.specs.Disk.{CallLog, DiskState}
use Rattle.careful_write.specs.declared.down.Down.{Down}
use Rattle.emitter_model.specs.commit_protocol.Rows as rows
use Rattle.emitter_model.specs.commit_protocol.Rows.{Event}
use Rattle.emitter_model.specs.Emitting.{Emits, Shown}
use Rattle.emitter_model.proofs.EmittingLemmas.{emits_on}
use Rattle.emitter_model.specs.transcript_model.Lines as line
use Rattle.emitter_model.specs.transcript_model.Lines.{Line}
use Rattle.world_laws.specs.run_model.World.{Node, Shared}
use Rattle.world_laws.specs.run_model.Answers.{Hears, LosesLink, Restarts, RunsDown, Serves, Takes, Task, Ticks, just, refused_before_reading, shown_line, task_service, told_rows}
use Rattle.world_laws.specs.run_model.Operations.{first_of, refused_if}
use Rattle.recovery_units.specs.volume_model.Volumes.{HasDisk}
use Rattle.world_laws.specs.Nodes.{AreUp, IsKeptNode, RowsKeepUp}
use Rattle.recovery_units.specs.Uses.{Caused, DiskAdvances}
use Rattle.row_laws.specs.Doing.{DoesRows}
use Rattle.run_shared.specs.Sharing.{IsShared, SharedState}
use Rattle.node_requests.specs.node_table.Running.{IsNewFor, TellsRows}
use Rattle.node_requests.specs.node_table.Standing.{Up, UpRepresents}
use Rattle.node_requests.specs.node_table.Telling.{ShowsWork}
use Rattle.dtm_node.specs.Causes.{cause_of}
use Rattle.node_requests.specs.node_standing.Keeping.{Performs, PerformsTask}
use Rattle.node_requests.specs.Running.{ComesFreely, TellsEvent, event_told, name_of, shown_first}
use Rattle.node_requests.specs.node_standing.Standing.{IsDown, NodeState, RepresentsNode, counts_of, disk_in, disk_of}
use Rattle.dtm_node.proofs.EventSteps.{did_performs, does_behind, up_behind, went_performs}
use Rattle.dtm_node.proofs.EventTasks.{IsEventTask, event_down, event_fails, event_task, event_tells}
use Rattle.dtm_node.proofs.Performing.{kept_fallen, kept_up}
use Rattle.dtm_node.proofs.Stepping.{IsPlain, step_early}

-- one line at the most is shown first
first_is : (t : Task) → (shown_first true t ≡ []) ⊎ ((l : Line) × (shown_first true t ≡ l ∷ []))
first_is (Hears m) = inr (_, refl)
first_is (Serves request) = inl refl
first_is Ticks = inl refl
first_is (Takes m) = inl refl
first_is (LosesLink other) = inl refl
first_is RunsDown = inl refl
first_is Restarts = inl refl

-- no branch begins by it
free_new : (e : Event) (n : Node) → ComesFreely e → IsNewFor n e
free_new (rows.Got m) n f = tt
free_new (rows.Clock now) n f = tt
free_new (rows.LinkDown other) n f = tt
free_new rows.RunDown n f = tt
free_new (rows.Start tid due) n f = absurd f
free_new (rows.Begin tid serial bid) n f = absurd f
free_new (rows.Authorise tid bid) n f = tt
free_new (rows.JoinRm serial rm) n f = tt
free_new (rows.Changed serial) n f = tt
free_new (rows.EndTrans tid) n f = tt
free_new (rows.EndBranch serial) n f = tt
free_new (rows.AbortBranch serial why) n f = tt
free_new (rows.Replied serial rm reply) n f = tt
free_new (rows.InquireBranch serial) n f = tt

module _ (rows_keep_up : RowsKeepUp) (e : Event) (free : ComesFreely e) (name : List ℕ) (clock : ℕ) (old new : Up) (before after : SharedState) (a b : Shown) (named : name_of old ≡ name) (told : (n : Node) → UpRepresents clock old n → is_some (disk_of old).seen ≡ true)
    (goes : DiskAdvances (disk_of old) (disk_of new)) (node_is : name_of new ≡ name_of old) (work : ShowsWork before after a b) where
  module _ {T : Type 0} (r : Result T Down) (does : TellsRows r e clock old new before after a b) (task : Task) (is : IsEventTask task clock e) (a0 : Shown) (first : Emits a0 (shown_first true task) a) where
    -- what its rows came to at a node of the world, with what is shown first
    does_here : (s : Shared) (n : Node) → UpRepresents clock old n → IsShared before s → IsKeptNode s n → DoesRows r (map shown_line (shown_first true task) ++ told_rows s n (just e)) s n a0 b (IsShared after) (UpRepresents clock new) (λ m. HasDisk m (disk_of new))
    does_here s n up share kept =
        let early : refused_before_reading s n (task_service task) ≡ None = ap (λ (x : Bool). first_of (refused_if (not (x || (task_service task).while_down)) line.NodeDown) ((task_service task).refused_before_reading s n)) up.stands.up ∙ is.early s n in
        let ups : AreUp ((task_service task).rows s n) n = rows_keep_up s n task kept up.stands.up early (is.late s n) in
        let ups' : AreUp (told_rows s n (just e)) n = up_behind (shown_first true task) (told_rows s n (just e)) n (subst (λ rs. AreUp rs n) (is.rows s n up.stands.clock_is) ups) in
        does_behind (shown_first true task) (first_is task) r (told_rows s n (just e)) s n a0 a b (IsShared after) (UpRepresents clock new) (λ m. HasDisk m (disk_of new)) first
        (does s n up (free_new e n free) share ups')

  -- it was done
  pub event_done : (goes_on : Bool) → TellsRows {T = Unit {0}} (Ok tt) e clock old new before after a b → TellsEvent e goes_on false (kept_up name clock old) before a b (kept_up name clock new) after
  event_done goes_on does task a0 of on first =
      let is = event_task clock task e of in (
        event_tells task clock e is name old before after a0 a b first work new goes,
        λ log n s h share kept promised. did_performs log s n name clock old h named (told n h.place) task e is new goes node_is after a0 b (does_here {T = Unit {0}} (Ok tt) does task is a0 first s n h.place share kept),
      )

  -- the disk went down in it
  pub event_failed : (d : Down) (c : Shown) (goes_on : Bool) → Caused (Some d) (disk_of old) (disk_of new) → Emits b (line.Down name (cause_of d) ∷ (if not goes_on then line.Broken (cause_of d) ∷ [] else [])) c
      → TellsRows {T = Unit {0}} (Err d) e clock old new before after a b → TellsEvent e goes_on (not goes_on) (kept_up name clock old) before a c (kept_fallen name clock (disk_of new)) after
  event_failed d c goes_on caused shows does task a0 of on first =
      let is = event_task clock task e of in (
        event_fails task clock e is name old before after a0 a b first work new goes d c (not goes_on) (on ∙ twice goes_on) caused shows,
        λ log n s h share kept promised. as_task on log n s h (went_performs log s n name clock old h named (told n h.place) task e is new goes node_is after d (not goes_on) a0 b c caused (does_here {T = Unit {0}} (Err d) does task is a0 first s n h.place share kept)
            (subst (λ x. Emits b (line.Down name (cause_of d) ∷ (if not goes_on then (if x then line.Normal else line.Broken (cause_of d)) ∷ [] else [])) c) (sym on) (shown goes_on shows))),
      )
    where
      twice : (x : Bool) → x ≡ not (not x)
      twice true = refl
      twice false = refl

      shown : (x : Bool) → Emits b (line.Down name (cause_of d) ∷ (if not x then line.Broken (cause_of d) ∷ [] else [])) c → Emits b (line.Down name (cause_of d) ∷ (if not x then (if x then line.Normal else line.Broken (cause_of d)) ∷ [] else [])) c
      shown true m = m
      shown false m = m

      as_task : (task_service task).goes_on ≡ goes_on → (log : CallLog) (n : Node) (s : Shared) → RepresentsNode log (kept_up name clock old) n → Performs log s n (counts_of (disk_of old)) task (not goes_on) (not (task_service task).goes_on) a0 c (kept_fallen name clock (disk_of new)) after
          → Performs log s n (counts_of (disk_of old)) task (not goes_on) (not goes_on) a0 c (kept_fallen name clock (disk_of new)) after
      as_task q log n s h p = subst (λ x. Performs log s n (counts_of (disk_of old)) task (not goes_on) (not x) a0 c (kept_fallen name clock (disk_of new)) after) q p

-- A node that is down answers with that.

refused_down : (t : Task) (clock : ℕ) (w : Shared) (n : Node) (x : Event) → event_told clock t ≡ Some x → n.up ≡ false → refused_before_reading w n (task_service t) ≡ Some line.NodeDown
refused_down (Serves request) clock w n x h down = let f : ⊥ = cc in absurd f
refused_down Restarts clock w n x h down = let f : ⊥ = cc in absurd f
refused_down Ticks clock w n x h down = ap (λ (u : Bool). first_of (refused_if (not (u || false)) line.NodeDown) None) down
refused_down (Takes m) clock w n x h down = ap (λ (u : Bool). first_of (refused_if (not (u || false)) line.NodeDown) None) down
refused_down (Hears m) clock w n x h down = ap (λ (u : Bool). first_of (refused_if (not (u || false)) line.NodeDown) None) down
refused_down (LosesLink other) clock w n x h down = ap (λ (u : Bool). first_of (refused_if (not (u || false)) line.NodeDown) None) down
refused_down RunsDown clock w n x h down = ap (λ (u : Bool). first_of (refused_if (not (u || false)) line.NodeDown) None) down

none_first : (t : Task) → shown_first false t ≡ []
none_first (Hears m) = refl
none_first (Serves request) = refl
none_first Ticks = refl
none_first (Takes m) = refl
none_first (LosesLink other) = refl
none_first RunsDown = refl
none_first Restarts = refl

-- a request or another task that a node which is down refuses for that
pub down_performs : (t : Task) (goes_on : Bool) → IsPlain (task_service t) goes_on → (k : NodeState) (s : SharedState) (a b : Shown) → ((w : Shared) (n : Node) → n.up ≡ false → refused_before_reading w n (task_service t) ≡ Some line.NodeDown) → ((log : CallLog) (n : Node) → RepresentsNode log k n → n.up ≡ false)
    → Emits a (line.NodeDown ∷ []) b → PerformsTask t true true k s a b k s
down_performs t goes_on plain k s a b refuses down shows = λ log n w h share kept promised. record {
  lines = [];
  answer = line.NodeDown;
  node = n;
  shared = w;
  step = step_early w n t (counts_of (disk_in k.place)) (counts_of (disk_in k.place)) (omega arith) (omega arith) goes_on plain line.NodeDown (refuses w n (down log n h));
  emits = shows;
  alike = share;
  stands = h;
}

pub event_at_down : (e : Event) (name : List ℕ) (unmade : Bool) (clock : ℕ) (has_parts : Bool) (d : DiskState) (s : SharedState) (a b : Shown) → Emits a (line.NodeDown ∷ []) b
    → (let k : NodeState = record { name = name; unmade = unmade; clock = clock; place = IsDown has_parts d } in TellsEvent e false true k s a b k s)
event_at_down e name unmade clock has_parts d s a b shows task first of on begins =
    let k : NodeState = record { name = name; unmade = unmade; clock = clock; place = IsDown has_parts d } in
    let is = event_task clock task e of in
    let whole : Emits first (line.NodeDown ∷ []) b = emits_on first a b [] (line.NodeDown ∷ []) (subst (λ ls. Emits first ls a) (none_first task) begins) shows in (
      event_down task clock e is k s first b refl whole,
      down_performs task (task_service task).goes_on is.plain k s first b (λ w n down. refused_down task clock w n e of down) (λ log n h. h.place.down) whole,
    )
