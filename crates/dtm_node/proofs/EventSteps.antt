-- What an event that came to a node which is up did there, as a step of the node of the world.
use Rattle.std.proofs.Common.{◌≡◌, ◌⊎◌, inl, inr, ℕ, List, [], ◌∷◌, ◌++◌, Bool, true, false, Option, Some, None, Result, Ok, Err, not, map, take, is_some, if◌then◌else◌, refl, ◌∙◌, ap, sym, subst}
use Rattle.std.specs.List.{AllByRecursion}
use Rattle.block_disk.specs.Disk.{CallLog}
use Rattle.careful_write.specs.declared.down.Down.{Down}
use Rattle.emitter_model.specs.commit_protocol.Rows.{Event, row}
use Rattle.emitter_model.specs.commit_protocol.Table as table
use Rattle.emitter_model.specs.Emitting.{Emits, Shown}
use Rattle.emitter_model.specs.transcript_model.Lines as line
use Rattle.emitter_model.specs.transcript_model.Lines.{Line}
use Rattle.emitter_model.proofs.EmittingLemmas.{emits_on}
use Rattle.world_laws.specs.run_model.World.{Act, Node, Shared, Tables, acted, next_moment, shared_after, tm_of}
use Rattle.world_laws.specs.run_model.Answers.{Row, Task, just, shown_line, table_rows, task_service, told_rows}
use Rattle.world_laws.specs.run_model.Steps.{lines_of_rows, node_after_rows, rows_if, shared_after_rows}
use Rattle.recovery_units.specs.volume_model.Volumes.{HasDisk}
use Rattle.world_laws.specs.Nodes.{AreUp}
use Rattle.recovery_units.specs.Uses.{Caused, DiskAdvances}
use Rattle.row_laws.specs.Doing.{DidAll, DoesRows, WentDown}
use Rattle.row_laws.proofs.Composing.{does_more}
use Rattle.run_shared.specs.Sharing.{IsShared, SharedState}
use Rattle.node_requests.specs.node_table.Serving.{WasCut, service_at}
use Rattle.node_requests.specs.node_table.Standing.{Up, UpRepresents}
use Rattle.dtm_node.specs.Causes.{cause_of}
use Rattle.node_requests.specs.node_standing.Keeping.{Performs}
use Rattle.node_requests.specs.Running.{name_of, shown_first}
use Rattle.node_requests.specs.node_standing.Standing.{RepresentsNode, counts_of, disk_of}
use Rattle.dtm_node.proofs.EventTasks.{IsEventTask}
use Rattle.dtm_node.proofs.Performing.{LeavesRest, cut_performs, kept_fallen, kept_up, leaves_rest, rows_same, stands_then}
use Rattle.dtm_node.proofs.Stepping.{step_done}

-- Rows of a table leave what they are to leave.

pub rest_some : (x act : Act) → Some x ≡ Some act → leaves_rest x ≡ true → leaves_rest act ≡ true
rest_some x act q h = let P : Option Act → Type 0 = λ o. elim o [ Some y ↦ leaves_rest y ≡ true | None ↦ Unit {0} ] in subst P q h

pub table_rest : (acts : List table.Act) (s : Shared) (n : Node) → AllByRecursion LeavesRest (table_rows acts s n)
table_rest [] s n = tt
table_rest (a ∷ acts) s n = (λ act q. rest_some (Tables a (next_moment n)) act q refl, table_rest acts (shared_after (Tables a (next_moment n)) s) (acted (Tables a (next_moment n)) n))

shown_rest : (front : List Line) (rs : List Row) → AllByRecursion LeavesRest rs → AllByRecursion LeavesRest (map shown_line front ++ rs)
shown_rest [] rs h = h
shown_rest (l ∷ front) rs h = (λ act q. (let f : ⊥ = cc in absurd f), shown_rest front rs h)

-- rows that only show leave a node up
pub up_behind : (front : List Line) (rs : List Row) (n : Node) → AreUp (map shown_line front ++ rs) n → AreUp rs n
up_behind [] rs n h = h
up_behind (l ∷ front) rs n h = up_behind front rs n h.1

-- rows behind those by which one line at the most is shown first
pub does_behind : {T : Type 0} (front : List Line) → (front ≡ []) ⊎ ((l : Line) × (front ≡ l ∷ [])) → (r : Result T Down) (rs : List Row) (s : Shared) (n : Node) (a0 a b : Shown) (shares : Shared → Type 0) (stands falls : Node → Type 0) → Emits a0 front a
    → DoesRows r rs s n a b shares stands falls → DoesRows r (map shown_line front ++ rs) s n a0 b shares stands falls
does_behind {T} front (inl e) r rs s n a0 a b shares stands falls first d =
    subst (λ ls. DoesRows r (map shown_line ls ++ rs) s n a0 b shares stands falls) (sym e) (go r d)
  where
    none : Emits a0 [] a
    none = subst (λ ls. Emits a0 ls a) e first

    go : (q : Result T Down) → DoesRows q rs s n a b shares stands falls → DoesRows q rs s n a0 b shares stands falls
    go (Ok x) h = record { shows = emits_on a0 a b [] (lines_of_rows rs) none h.shows; shared = h.shared; node = h.node }
    go (Err x) h = record { done = h.done; begun = h.begun; within = h.within; shows = emits_on a0 a b [] (lines_of_rows (take h.done rs)) none h.shows; shared = h.shared; disk = h.disk }
does_behind {T} front (inr e) r rs s n a0 a b shares stands falls first d =
    subst (λ ls. DoesRows r (map shown_line ls ++ rs) s n a0 b shares stands falls) (sym e.1)
    (does_more shares stands falls r (shown_line e.0) rs s n a0 a b (subst (λ ls. Emits a0 ls a) e.1 first) d)

module _ (log : CallLog) (s : Shared) (n : Node) (name : List ℕ) (clock : ℕ) (old : Up) (h : RepresentsNode log (kept_up name clock old) n) (named : name_of old ≡ name) (told : is_some (disk_of old).seen ≡ true)
    (t : Task) (e : Event) (is : IsEventTask t clock e) (new : Up) (goes : DiskAdvances (disk_of old) (disk_of new)) (node_is : name_of new ≡ name_of old) (after : SharedState) where
  abbrev event_rows : List Row
  event_rows = map shown_line (shown_first true t) ++ told_rows s n (just e)

  rows_are : (task_service t).rows s n ≡ event_rows
  rows_are = is.rows s n h.clock

  rest : AllByRecursion LeavesRest ((task_service t).rows s n)
  rest = subst (AllByRecursion LeavesRest) (sym rows_are) (shown_rest (shown_first true t) (told_rows s n (just e)) (table_rest (row (tm_of n) e) s n))

  pub did_performs : (a b : Shown) → DidAll event_rows s n a b (IsShared after) (UpRepresents clock new) → Performs log s n (counts_of (disk_of old)) t false false a b (kept_up name clock new) after
  did_performs a b d =
      let rs = (task_service t).rows s n in
      record {
        lines = lines_of_rows rs;
        answer = (task_service t).answer s n;
        node = node_after_rows rs n;
        shared = shared_after_rows rs s;
        step = step_done s n t (counts_of (disk_of old)) (counts_of (disk_of new)) (goes.faults h.counts) (goes.stops h.counts) (task_service t).goes_on is.plain (Rattle.dtm_node.proofs.Performing.before_here log s n name clock old h named told (task_service t) ∙ is.early s n) (is.late s n);
        emits = subst (λ x. Emits a (lines_of_rows x) b) (sym rows_are) d.shows;
        alike = subst (λ x. IsShared after (shared_after_rows x s)) (sym rows_are) d.shared;
        stands = stands_then log s n name clock old h named told t (task_service t).goes_on is.plain new goes node_is after (node_after_rows rs n) (subst (λ x. UpRepresents clock new (node_after_rows x n)) (sym rows_are) d.node) (rows_same rs n rest);
      }

  pub went_performs : (d : Down) (answers : Bool) (a mid b : Shown) → Caused (Some d) (disk_of old) (disk_of new) → WentDown event_rows s n a mid (IsShared after) (λ m. HasDisk m (disk_of new))
      → Emits mid (line.Down name (cause_of d) ∷ (if answers then (if (task_service t).goes_on then line.Normal else line.Broken (cause_of d)) ∷ [] else [])) b
      → Performs log s n (counts_of (disk_of old)) t answers (not (task_service t).goes_on) a b (kept_fallen name clock (disk_of new)) after
  went_performs d answers a mid b caused w shows =
      cut_performs log s n name clock old h named told t (task_service t).goes_on is.plain new goes node_is after rest d a mid b caused is.touches_it (as_cut (sym at_risk) w) answers shows
    where
      at_risk : rows_if ((task_service t).refused_after_reading s n) ((task_service t).rows s n) ≡ event_rows
      at_risk = ap (λ (o : Option Line). rows_if o ((task_service t).rows s n)) (is.late s n) ∙ rows_are

      as_cut : event_rows ≡ rows_if ((task_service t).refused_after_reading s n) ((task_service t).rows s n) → WentDown event_rows s n a mid (IsShared after) (λ m. HasDisk m (disk_of new)) → WasCut (service_at (task_service t) s n) s n a mid (IsShared after) (disk_of new)
      as_cut q v =
          let v' : WentDown (rows_if ((task_service t).refused_after_reading s n) ((task_service t).rows s n)) s n a mid (IsShared after) (λ m. HasDisk m (disk_of new)) = subst (λ x. WentDown x s n a mid (IsShared after) (λ m. HasDisk m (disk_of new))) q v in
          record { unrefused = is.early s n; done = v'.done; begun = v'.begun; within = v'.within; shows = v'.shows; shared = v'.shared; disk = v'.disk }
