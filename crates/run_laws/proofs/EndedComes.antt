-- Where END_TRANS was answered that something was missing, the line that settles the first branch has ENDED behind it.
use Rattle.std.proofs.Common.{◌≡◌, ℕ, ◌+◌, ◌⊎◌, List, [], ◌∷◌, ◌++◌, map, Bool, true, false, not, ◌&&◌, ◌||◌, Option, Some, None, if◌then◌else◌, inl, inr, refl, sym, ◌∙◌, ap, subst, append_assoc}
use Rattle.std.specs.Str.{bytes_eq}
use Rattle.std.proofs.lemmas.Bool.{both_ways}
use Rattle.std.proofs.lemmas.Slice.Eq.{bytes_eq-Decides}
use Rattle.vms_model.specs.Ids.{Id}
use Rattle.vms_model.specs.Transactions.{Outcome, Commit, Abort, Reason, Aborted, Vetoed, SyncFail, Timeout, CommFail, SegFail}
use Rattle.run_said.specs.transcript_model.Lines as line
use Rattle.run_said.specs.transcript_model.Lines.{Line, Cause}
use Rattle.run_said.specs.script_model.Statements.{Statement, At, Deliver, LinkDown, Settle, Request, Boot, Clock, EndTrans, Fuse, Init, StartTrans, Reading, Blank, Says, Bad}
use Rattle.run_said.specs.script_model.Grammar.{reading}
use Rattle.commit_protocol.specs.Messages.{LogRecord, Message}
use Rattle.commit_protocol.specs.Table as table
use Rattle.commit_protocol.specs.Table.{Branch, Key as BranchKey, Ending, Accepts, Acknowledges, Leaves, Notes, Prepares, Prints, Releases, Sends, Settles, Undoes, first}
use Rattle.commit_protocol.specs.Rows as rows
use Rattle.commit_protocol.specs.Rows.{all_replied, all_taken, all_voted, begins_ending, commits_if_all, ending, joined, row, sends_all, serials, tells, to_each, which_event}
use Rattle.commit_protocol.specs.Messages as message
use Rattle.commit_protocol.specs.World.{In, undo_all}
use Rattle.commit_protocol.proofs.Lists.{in_left, in_right}
use Rattle.run_said.specs.run_model.World.{World, Shared, Node, Act, DiskCounts, Settlement, Boots, Directs, Outturn, Tables, acted, find_node, next_moment, opened, shared_after}
use Rattle.run_said.specs.run_model.Answers as answers
use Rattle.run_said.specs.run_model.Answers.{Row, Service, Task, Serves, Ticks, Takes, Hears, LosesLink, RunsDown, Restarts, boot_rows, branch_labelled, just, last_lines, left_active, powers, prepared_lines, refused_before_reading, service, settled_line, table_rows, task_service, told_rows, unit_key}
use Rattle.run_said.specs.run_model.Operations.{refused_if}
use Rattle.run_said.specs.run_model.Steps.{Choice, TaskAllowed, TaskEffect, lines_of_rows, node_after, node_after_rows, ready_node, succeeded, task_effect}
use Rattle.run_said.specs.run_model.Statements.{Part, Asks, Does, Doubtful, Heard, PartEffect, Phase, Phases, Begins, Question, Step, Unanswered, Allowed, RoseAt, begun_with, message_at, part_effect, phases_of, question, refused_at_once, stops_at}
use Rattle.run_said.specs.run_model.StepLaws.{TaskAt, asked_by, task_of_part}
use Rattle.run_said.specs.run_model.Transcript.{Entry, Legal, AreOpening, Turn as LineTurn}
use Rattle.run_said.proofs.run_model.NodeLists.{found_name, some_is}
use Rattle.run_said.proofs.run_model.PartLemmas.{EachPart, EachPhase, phases_fold}
use Rattle.run_said.proofs.run_model.PartTasks.{View, Doing, Fixed, all_asked, each_restart, each_run_down, each_up, view}
use Rattle.run_said.proofs.run_model.Refusing.{each_phase, not_ready}
use Rattle.run_said.proofs.run_model.TaskLemmas as tasks
use Rattle.run_said.proofs.run_model.TaskLemmas.{First, Late, Success, Lacking, Failing, effect_name, outcome, ready_name}
use Rattle.run_said.proofs.Passing.{AllPass, append_passes, prepared_passes}
use Rattle.recovery_laws.proofs.world_laws.AnswerLemmas.{neither, not_refused}
use Rattle.recovery_laws.proofs.world_laws.ServedLemmas.{undrawn}
use Rattle.recovery_laws.proofs.world_laws.UpLemmas.{differ}
use Rattle.run_laws.specs.Causes.{AbortCause, CommitCause, DeliversTo, IsDirect, WasEnded}
use Rattle.run_laws.specs.Laws.{EndedComesHold}
use Rattle.run_laws.specs.Promises.{IsUndoneByBoot, ShownThere, abort, commitment, ended_line}
use Rattle.run_laws.proofs.Beginning.{transaction_begins}
use Rattle.run_laws.proofs.BegunNames.{begun_named}
use Rattle.run_laws.proofs.CauseRuns.{aborted_hold, commits_hold}
use Rattle.run_laws.proofs.Deciding.{split_legal}
use Rattle.run_laws.proofs.EachRow.{ArePlain, EachRow, is_plain}
use Rattle.run_laws.proofs.Ending.{active_is, active_unprepared, done, end_row, ends_waiting, named_branch, row_is}
use Rattle.run_laws.proofs.EndingRows.{told_reason}
use Rattle.run_laws.proofs.EndingStays.{LeavesSo, staying, staying_keeps}
use Rattle.run_laws.proofs.EndingTasks.{RowSo, RowsSo, task_so}
use Rattle.run_laws.proofs.FirstBranch.{IsFirst, first_on}
use Rattle.run_laws.proofs.Keeping.{AllTake, Kept, any_effect, closes_none, down_effect, nothing_more}
use Rattle.run_laws.proofs.Labelling.{label_of}
use Rattle.run_laws.proofs.Missing.{put_one}
use Rattle.run_laws.proofs.Moving.{in_cut}
use Rattle.run_laws.proofs.NamedRuns.{legal_named}
use Rattle.run_laws.proofs.OwnLines.{line_in, task_owns}
use Rattle.run_laws.proofs.Paths as paths
use Rattle.run_laws.proofs.Paths.{begins_on, disks_on, part_used}
use Rattle.run_laws.proofs.PreparedLines.{passes_in}
use Rattle.run_laws.proofs.RowFits.{Tells, TellsAct, each_tells}
use Rattle.run_laws.proofs.ShownSettled.{answer_plain, here_in}
use Rattle.run_laws.proofs.SoundWorlds.{Changed, Here, Beside, IsSound, IsSoundNode, changed, legal_sound, opening_sound, part_sound, sound_node, unused}
use Rattle.run_laws.proofs.Splits.{split_append}
use Rattle.run_laws.proofs.ToldRuns.{rows_tables, sends_tables, tables, tells_tables}

-- Lines.

never_empty : (front : List Line) (this : Line) (behind : List Line) → [] ≡ front ++ this ∷ behind → ⊥
never_empty [] this behind e = let no : ⊥ = cc in no
never_empty (y ∷ front) this behind e = let no : ⊥ = cc in no

one_line : (l : Line) (front : List Line) (this : Line) (behind : List Line) → l ∷ [] ≡ front ++ this ∷ behind → l ≡ this
one_line l [] this behind e = cc
one_line l (y ∷ []) this behind e = let no : ⊥ = cc in absurd no
one_line l (y ∷ z ∷ front) this behind e = let no : ⊥ = cc in absurd no

-- the last line stands behind each other
last_behind : (xs : List Line) (last : Line) (front : List Line) (this : Line) (behind : List Line) → xs ++ last ∷ [] ≡ front ++ this ∷ behind → (last ≡ this → ⊥) → In last behind
last_behind xs last front this behind e other = elim (split_append xs (last ∷ []) front this behind e) [
  | inl r ↦ subst (In last) (sym r.2) (here_in r.0 last [])
  | inr r ↦ absurd (other (one_line last r.0 this behind r.2))
]

ended_unplain : (x : Id) (reason : Option Reason) (moment : ℕ) → is_plain (ended_line x reason moment) ≡ false
ended_unplain x None moment = refl
ended_unplain x (Some reason) moment = refl

plain_never : (x : Id) (ls front behind : List Line) (reason : Option Reason) (moment : ℕ) → ArePlain ls → ls ≡ front ++ ended_line x reason moment ∷ behind → ⊥
plain_never x ls front behind reason moment h e = both_ways (is_plain (ended_line x reason moment)) (ended_unplain x reason moment) (passes_in is_plain ls (ended_line x reason moment) h (subst (In (ended_line x reason moment)) (sym e) (here_in front (ended_line x reason moment) behind)))

-- a line that a boot may show: of settlements only that it undid a branch
abbrev is_undone : Line → Bool
is_undone (line.Committed tid serial moment) = false
is_undone (line.Aborted tid serial SegFail moment) = true
is_undone (line.Aborted tid serial reason moment) = false
is_undone _ = true

undone_reason : (x : Id) (reason : Option Reason) (moment : ℕ) → is_undone (ended_line x reason moment) ≡ true → reason ≡ Some SegFail
undone_reason x None moment e = let no : ⊥ = cc in absurd no
undone_reason x (Some SegFail) moment e = refl
undone_reason x (Some Aborted) moment e = let no : ⊥ = cc in absurd no
undone_reason x (Some Vetoed) moment e = let no : ⊥ = cc in absurd no
undone_reason x (Some SyncFail) moment e = let no : ⊥ = cc in absurd no
undone_reason x (Some Timeout) moment e = let no : ⊥ = cc in absurd no
undone_reason x (Some CommFail) moment e = let no : ⊥ = cc in absurd no

lasts_undone : (n : Node) → AllPass is_undone (last_lines n)
lasts_undone n = go n.durable.last
  where
    one : (t : Settlement) (o : Outcome) (r : Option Reason) → AllPass is_undone (elim o [ Commit ↦ line.LastCommitted t.tid t.serial t.moment ∷ [] | Abort ↦ elim r [ Some reason ↦ line.LastAborted t.tid t.serial reason t.moment ∷ [] | None ↦ [] ] ])
    one t Commit r = (refl, tt)
    one t Abort (Some reason) = (refl, tt)
    one t Abort None = tt

    go : (o : Option Settlement) → AllPass is_undone (elim o [ Some t ↦ answers.last_line t | None ↦ [] ])
    go (Some t) = one t t.outcome t.reason
    go None = tt

undos_undone : (ks : List BranchKey) (s : Shared) (n : Node) → AllPass is_undone (lines_of_rows (table_rows (undo_all ks) s n))
undos_undone [] s n = tt
undos_undone (k ∷ ks) s n = (refl, undos_undone ks (shared_after (Tables (Undoes k) (next_moment n)) s) (acted (Tables (Undoes k) (next_moment n)) n))

boot_undone : (s : Shared) (n : Node) → AllPass is_undone (lines_of_rows (boot_rows s n))
boot_undone s n = append_passes is_undone (last_lines n) (lines_of_rows (table_rows (undo_all (map unit_key (left_active n))) s (acted Boots n))) (lasts_undone n) (undos_undone (map unit_key (left_active n)) s (acted Boots n))

-- Tasks.

abbrev is_boot : Task → Bool
is_boot (Serves Boot) = true
is_boot _ = false

abbrev is_restart : Task → Bool
is_restart Restarts = true
is_restart _ = false

-- one that a node which is down does without its disk shows nothing
silent_down : (t : Task) (s : Shared) (n : Node) → (task_service t).while_down ≡ true → powers (task_service t) ≡ false → (succeeded s n (task_service t)).lines ≡ []
silent_down t s n serves off = of_task t serves off
  where
    of_request : (r : Request) → (service r).while_down ≡ true → powers (service r) ≡ false → (succeeded s n (service r)).lines ≡ []
    of_request (Fuse writes choice) q p = refl
    of_request (Clock now) q p = refl
    of_request (Init slots journal) q p = let no : ⊥ = cc in absurd no
    of_request Boot q p = let no : ⊥ = cc in absurd no
    of_request _ q p = let no : ⊥ = cc in absurd no

    of_task : (u : Task) → (task_service u).while_down ≡ true → powers (task_service u) ≡ false → (succeeded s n (task_service u)).lines ≡ []
    of_task (Serves r) q p = of_request r q p
    of_task Restarts q p = let no : ⊥ = cc in absurd no
    of_task _ q p = let no : ⊥ = cc in absurd no

served_down : (s : Shared) (n : Node) (e : Service) → n.up ≡ false → refused_before_reading s n e ≡ None → e.while_down ≡ true
served_down s n e down free = go e.while_down (subst (λ up. not (up || e.while_down) ≡ false) down (not_refused _ line.NodeDown (neither (refused_if (not (n.up || e.while_down)) line.NodeDown) (e.refused_before_reading s n) free).0))
  where
    go : (b : Bool) → not (false || b) ≡ false → b ≡ true
    go true q = refl
    go false q = let no : ⊥ = cc in absurd no

module _ (x : Id) where
  -- what is known in each world behind the answer of END_TRANS
  abbrev pub IsStaying : World → Type 0
  IsStaying w = paths.IsOn (staying x) (staying_keeps x) x.node tt (λ ls. refl) (λ n. tt) w

  abbrev IsKept : Node → Type 0
  IsKept n = Kept (staying x) (staying_keeps x) tt n

  takes_of : (rs : List Row) → RowsSo x rs → AllTake (staying x) rs
  takes_of [] h = tt
  takes_of (r ∷ rs) h = (one r.act h.0, takes_of rs h.1)
    where
      one : (o : Option Act) → RowSo x o (lines_of_rows rs) → LeavesSo x o
      one (Some (Tables (Notes b) moment)) q = q
      one (Some (Tables (Accepts b c) moment)) q = q
      one (Some (Tables (Prepares b) moment)) q = q
      one (Some (Tables _ moment)) q = tt
      one _ q = tt

  -- the rows of a task at a node that is up
  up_rows : (s : Shared) (n : Node) (t : Task) → IsKept n → n.up ≡ true → powers (task_service t) ≡ false → RowsSo x ((task_service t).rows s n)
  up_rows s n t h up off = let k = h.runs up in task_so x s n (undrawn n x k.drawn) k.branch t off

  own_stays : (s : Shared) (stops : ℕ) (n : Node) (t : Task) (c : Choice) (rises : Cause → Type 0) → IsSoundNode s n → s.in_use ≡ true → TaskAllowed s stops n t rises c → IsKept n → IsKept (task_effect s stops n t c).node
  own_stays s stops n t c rises sound used may h = go n.up refl (powers (task_service t)) refl
    where
      any : (powers (task_service t) ≡ false → AllTake (staying x) ((task_service t).rows s n)) → IsKept (task_effect s stops n t c).node
      any takes = any_effect (staying x) (staying_keeps x) s stops n tt sound.kept h (unused s n sound) (λ off slots journal m none. absurd (both_ways s.in_use off used)) t takes (λ on. tt) c rises may

      go : (b : Bool) → n.up ≡ b → (p : Bool) → powers (task_service t) ≡ p → IsKept (task_effect s stops n t c).node
      go true up p is = any (λ off. takes_of ((task_service t).rows s n) (up_rows s n t h up off))
      go false down true on = any (λ off. absurd (both_ways (powers (task_service t)) off on))
      go false down false off = down_effect (staying x) (staying_keeps x) s stops n t tt sound.kept h off down c rises may

  abbrev AllKept : World → Type 0
  AllKept v = (m : Node) → find_node x.node v.nodes ≡ Some m → IsKept m

  part_stays : (w : World) (p : Part) (c : Choice) (after : List DiskCounts) → Allowed w p after c → IsStaying w → IsStaying (part_effect w p c).world
  part_stays w p c after allowed h = record { sound = part_sound w p c after allowed h.sound; used = part_used w p c h.used; tracked = go (view w p) }
    where
      go : View w p → AllKept (part_effect w p c).world
      go (Fixed answer ends kind is) = subst (λ (y : PartEffect). AllKept y.world) (sym (is c)) h.tracked
      go (Doing other t n named found does may) =
          let e = task_effect w.shared (stops_at other w) n t c in
          subst (λ (y : PartEffect). AllKept y.world) (sym (does c)) (λ m is. at m (changed other x.node n w.nodes e.node m (effect_name w.shared (stops_at other w) n t c) found is))
        where
          at : (m : Node) → Changed other x.node n w.nodes (task_effect w.shared (stops_at other w) n t c).node m → IsKept m
          at m (Here same is) = subst IsKept (sym is)
              (own_stays w.shared (stops_at other w) n t c (λ cause. RoseAt w other cause after) (sound_node w h.sound other n found) h.used (may after c allowed) (h.tracked n (subst (λ name. find_node name w.nodes ≡ Some n) (sym same) found)))
          at m (Beside apart is) = h.tracked m is

  step_stays : (w v : World) (s : Statement) (lines : List Line) → Step w s lines v → IsStaying w → IsStaying v
  step_stays w v s lines step h = subst IsStaying (sym step.goes) (disks_on (staying x) (staying_keeps x) x.node tt (λ ls. refl) (λ n. tt) step.world v.disks (go (refused_at_once w s) step.does))
    where
      go : (o : Option Line) → Begins o (Phases (phases_of s) v.disks (begun_with s w) line.Normal) w step.events step.answer step.world → IsStaying step.world
      go (Some refusal) d = subst IsStaying (sym d.2) h
      go None d = phases_fold v.disks (λ p. Unit {0}) (λ given. Unit {0}) (λ u rest answer z. IsStaying u → IsStaying z)
          (λ u given q k. k)
          (λ u p c ok allowed ends k. part_stays u p c v.disks allowed k)
          (λ u p c ok allowed on. (tt, λ rest answer z more k. more (part_stays u p c v.disks allowed k)))
          (phases_of s) (each_phase s) (begun_with s w) line.Normal step.events step.answer step.world tt d (begins_on (staying x) (staying_keeps x) x.node tt (λ ls. refl) (λ n. tt) s w h)

  turn_stays : (w v : World) (r : Reading) (lines : List Line) → LineTurn w r lines v → IsStaying w → IsStaying v
  turn_stays w v Blank lines turn h = subst IsStaying (sym turn.1) h
  turn_stays w v (Says s) lines turn h = step_stays w v s lines turn h
  turn_stays w v (Bad column) lines turn h = absurd turn

  path_stays : (w v : World) (es : List Entry) → Legal w es v → IsStaying w → IsStaying v
  path_stays w v [] legal h = subst IsStaying (sym legal) h
  path_stays w v (e ∷ es) legal h = turn_stays legal.0 v (reading e.source.text) e.lines legal.2 (path_stays w legal.0 es legal.1 h)

  -- What comes behind a line that settles it.

  abbrev Comes : Reading → List Line → Option Reason → Type 0
  Comes said behind reason = In (line.Ended x reason) behind ⊎ (IsUndoneByBoot said behind x reason ⊎ ((cause : Cause) × In (line.Down x.node cause) behind))

  abbrev AllCome : Reading → List Line → Type 0
  AllCome said lines = (front behind : List Line) (reason : Option Reason) (moment : ℕ) → lines ≡ front ++ ended_line x reason moment ∷ behind → Comes said behind reason

  none_come : (said : Reading) → AllCome said []
  none_come said front behind reason moment e = absurd (never_empty front (ended_line x reason moment) behind e)

  more_come : (said : Reading) (behind more : List Line) (reason : Option Reason) → Comes said behind reason → Comes said (behind ++ more) reason
  more_come said behind more reason (inl i) = inl (in_left (line.Ended x reason) behind more i)
  more_come said behind more reason (inr (inl (is, inl boot))) = inr (inl (is, inl boot))
  more_come said behind more reason (inr (inl (is, inr (settles, count, i)))) = inr (inl (is, inr (settles, count, in_left (line.Booted x.node count) behind more i)))
  more_come said behind more reason (inr (inr (cause, i))) = inr (inr (cause, in_left (line.Down x.node cause) behind more i))

  come_append : (said : Reading) (xs ys : List Line) → AllCome said xs → AllCome said ys → AllCome said (xs ++ ys)
  come_append said xs ys f g front behind reason moment e = elim (split_append xs ys front (ended_line x reason moment) behind e) [
    | inl r ↦ subst (λ b. Comes said b reason) (sym r.2) (more_come said r.0 ys reason (f front r.0 reason moment r.1))
    | inr r ↦ g r.0 behind reason moment r.2
  ]

  -- Rows.

  settled_comes : (k : BranchKey) (o : Outcome) (why : Reason) (m : ℕ) (rest : List Line) → (k.serial ≡ x → In (line.Ended x (told_reason o why)) rest) → (reason : Option Reason) (moment : ℕ) → settled_line k o why m ≡ ended_line x reason moment → In (line.Ended x reason) rest
  settled_comes k Commit why m rest g None moment e = let serial : k.serial ≡ x = cc in g serial
  settled_comes k Abort why m rest g (Some reason) moment e = let serial : k.serial ≡ x = cc in let same : why ≡ reason = cc in subst (λ r. In (line.Ended x (Some r)) rest) same (g serial)
  settled_comes k Commit why m rest g (Some reason) moment e = let no : ⊥ = cc in absurd no
  settled_comes k Abort why m rest g None moment e = let no : ⊥ = cc in absurd no

  direct_never : (s : Settlement) (reason : Option Reason) (moment : ℕ) → (s.serial ≡ x → ⊥) → line.Committed s.tid s.serial s.moment ≡ ended_line x reason moment → ⊥
  direct_never s None moment g e = let serial : s.serial ≡ x = cc in g serial
  direct_never s (Some reason) moment g e = let no : ⊥ = cc in no

  row_comes : (r : Row) (n : Node) (rest : List Line) → RowSo x r.act rest → Tells r n → (front behind : List Line) (reason : Option Reason) (moment : ℕ) → r.lines ≡ front ++ ended_line x reason moment ∷ behind → In (line.Ended x reason) rest
  row_comes r n rest h t front behind reason moment e = go r.act h t
    where
      plain : ArePlain r.lines → In (line.Ended x reason) rest
      plain q = absurd (plain_never x r.lines front behind reason moment q e)

      tabled : (a : table.Act) (m : ℕ) → RowSo x (Some (Tables a m)) rest → TellsAct (Some (Tables a m)) r.lines n → In (line.Ended x reason) rest
      tabled (Settles k o why q) m g u = settled_comes k o why m rest g reason moment (one_line (settled_line k o why m) front (ended_line x reason moment) behind (sym u ∙ e))
      tabled (Undoes k) m g u = absurd g
      tabled (Notes b) m g u = plain u
      tabled (Accepts b c) m g u = plain u
      tabled (Prepares b) m g u = plain u
      tabled (Leaves k) m g u = plain u
      tabled (Acknowledges k) m g u = plain u
      tabled (Releases y rm) m g u = plain u
      tabled (Sends message) m g u = plain u
      tabled (Prints l) m g u = plain u

      go : (o : Option Act) → RowSo x o rest → TellsAct o r.lines n → In (line.Ended x reason) rest
      go None g u = plain u
      go (Some (Tables a m)) g u = tabled a m g u
      go (Some (Directs file cs s)) g u = absurd (direct_never s reason moment g (one_line (line.Committed s.tid s.serial s.moment) front (ended_line x reason moment) behind (sym u ∙ e)))
      go (Some Boots) g u = absurd g
      go (Some _) g u = plain u

  rows_come : (said : Reading) (rs : List Row) (n : Node) → RowsSo x rs → EachRow Tells rs n → AllCome said (lines_of_rows rs)
  rows_come said [] n h t front behind reason moment e = none_come said front behind reason moment e
  rows_come said (r ∷ rs) n h t front behind reason moment e = elim (split_append r.lines (lines_of_rows rs) front (ended_line x reason moment) behind e) [
    | inl s ↦ inl (subst (In (line.Ended x reason)) (sym s.2) (in_right (line.Ended x reason) s.0 (lines_of_rows rs) (row_comes r n (lines_of_rows rs) h.0 t.0 front s.0 reason moment s.1)))
    | inr s ↦ rows_come said rs (node_after r.act n) h.1 t.1 s.0 behind reason moment s.2
  ]

  -- Tasks.

  not_booted : (name : List ℕ) (count : ℕ) (reason : Option Reason) (moment : ℕ) → line.Booted name count ≡ ended_line x reason moment → ⊥
  not_booted name count None moment e = let no : ⊥ = cc in no
  not_booted name count (Some reason) moment e = let no : ⊥ = cc in no

  not_down : (name : List ℕ) (cause : Cause) (reason : Option Reason) (moment : ℕ) → line.Down name cause ≡ ended_line x reason moment → ⊥
  not_down name cause None moment e = let no : ⊥ = cc in no
  not_down name cause (Some reason) moment e = let no : ⊥ = cc in no

  restart_comes : (said : Reading) (s : Shared) (m : Node) → m.name ≡ x.node → said ≡ Says Settle → AllCome said (succeeded s m (task_service Restarts)).lines
  restart_comes said s m name settles front behind reason moment e =
      let booted = line.Booted m.name (m.durable.boot + 1) in
      let all : AllPass is_undone (lines_of_rows (boot_rows s m) ++ (prepared_lines m ++ booted ∷ [])) = append_passes is_undone (lines_of_rows (boot_rows s m)) (prepared_lines m ++ booted ∷ []) (boot_undone s m) (append_passes is_undone (prepared_lines m) (booted ∷ []) (prepared_passes is_undone (λ tid serial. refl) _) (refl, tt)) in
      let why = undone_reason x reason moment (passes_in is_undone (lines_of_rows (boot_rows s m) ++ (prepared_lines m ++ booted ∷ [])) (ended_line x reason moment) all (subst (In (ended_line x reason moment)) (sym e) (here_in front (ended_line x reason moment) behind))) in
      let last = last_behind (lines_of_rows (boot_rows s m) ++ prepared_lines m) booted front (ended_line x reason moment) behind (append_assoc (lines_of_rows (boot_rows s m)) (prepared_lines m) (booted ∷ []) ∙ e) (not_booted m.name (m.durable.boot + 1) reason moment) in
      inr (inl (why, inr (settles, m.durable.boot + 1, subst (λ y. In (line.Booted y (m.durable.boot + 1)) behind) name last)))

  effect_comes : (said : Reading) (s : Shared) (stops : ℕ) (n : Node) (t : Task) (c : Choice) (rises : Cause → Type 0) → TaskAllowed s stops n t rises c → IsKept n → n.name ≡ x.node → is_boot t ≡ false → (is_restart t ≡ true → said ≡ Says Settle) → AllCome said (task_effect s stops n t c).lines
  effect_comes said s stops n t c rises may h name no_boot restart = go (outcome s stops n t rises c may)
    where
      so : (lines : List Line) → (task_effect s stops n t c).lines ≡ lines → AllCome said lines → AllCome said (task_effect s stops n t c).lines
      so lines is k = subst (AllCome said) (sym is) k

      powering : (u : Task) (m : Node) → m.name ≡ x.node → is_boot u ≡ false → (is_restart u ≡ true → said ≡ Says Settle) → powers (task_service u) ≡ true → AllCome said (succeeded s m (task_service u)).lines
      powering Restarts m named b r on = restart_comes said s m named (r refl)
      powering (Serves request) m named b r on = of_request request b on
        where
          of_request : (q : Request) → is_boot (Serves q) ≡ false → powers (service q) ≡ true → AllCome said (succeeded s m (service q)).lines
          of_request (Init slots journal) b on = none_come said
          of_request Boot b on = let no : ⊥ = cc in absurd no
          of_request _ b on = let no : ⊥ = cc in absurd no
      powering _ m named b r on = let no : ⊥ = cc in absurd no

      succeeds : (o : Outturn) → refused_before_reading s n (task_service t) ≡ None → (p : Bool) → powers (task_service t) ≡ p → (up : Bool) → n.up ≡ up → AllCome said (succeeded s (ready_node o stops (task_service t) n) (task_service t)).lines
      succeeds o free true on up is = powering t (ready_node o stops (task_service t) n) (ready_name o stops (task_service t) n ∙ name) no_boot restart on
      succeeds o free false off true up =
          let rs = (task_service t).rows s n in
          let lines : (succeeded s n (task_service t)).lines ≡ lines_of_rows rs = nothing_more (lines_of_rows rs) ((task_service t).closing_lines n) (closes_none (staying x) (staying_keeps x) t n off).1 in
          subst (λ m. AllCome said (succeeded s m (task_service t)).lines) (sym (not_ready o stops (task_service t) n off)) (subst (AllCome said) (sym lines) (rows_come said rs n (up_rows s n t h up off) (each_tells s n t)))
      succeeds o free false off false down =
          subst (λ m. AllCome said (succeeded s m (task_service t)).lines) (sym (not_ready o stops (task_service t) n off)) (subst (AllCome said) (sym (silent_down t s n (served_down s n (task_service t) down free) off)) (none_come said))

      go : tasks.Outcome s stops n t rises (task_effect s stops n t c) → AllCome said (task_effect s stops n t c).lines
      go (First refusal free f) = so [] (ap (λ (e : TaskEffect). e.lines) f) (none_come said)
      go (Late o refusal turns free late f) = so [] (ap (λ (e : TaskEffect). e.lines) f) (none_come said)
      go (Success o turns free late f) = so (succeeded s (ready_node o stops (task_service t) n) (task_service t)).lines (ap (λ (e : TaskEffect). e.lines) f) (succeeds o free (powers (task_service t)) refl n.up refl)
      go (Lacking free takes f) = so [] (ap (λ (e : TaskEffect). e.lines) f) (none_come said)
      go (Failing cause shown goes_on free rose lines down answer ends) = so (shown ++ line.Down n.name cause ∷ []) lines (λ front behind reason moment e.
          inr (inr (cause, subst (λ y. In (line.Down y cause) behind) name (last_behind shown (line.Down n.name cause) front (ended_line x reason moment) behind e (not_down n.name cause reason moment)))))

  -- a task of another node shows no settlement of it
  foreign_comes : (said : Reading) (s : Shared) (stops : ℕ) (n : Node) (t : Task) (c : Choice) (rises : Cause → Type 0) → IsSoundNode s n → TaskAllowed s stops n t rises c → (n.name ≡ x.node → ⊥) → AllCome said (task_effect s stops n t c).lines
  foreign_comes said s stops n t c rises sound may other front behind reason moment e =
      absurd (other (sym (owns reason (subst (In (ended_line x reason moment)) (sym e) (here_in front (ended_line x reason moment) behind)))))
    where
      owns : (reason : Option Reason) → In (ended_line x reason moment) (task_effect s stops n t c).lines → x.node ≡ n.name
      owns None i = task_owns s stops n t c rises sound may (commitment x x moment) (line_in (task_effect s stops n t c).lines (line.Committed x x moment) (commitment x x moment) [] i refl)
      owns (Some why) i = task_owns s stops n t c rises sound may (abort x x why moment) (line_in (task_effect s stops n t c).lines (line.Aborted x x why moment) (abort x x why moment) [] i refl)

  -- Parts.

  abbrev boots : Part → Bool
  boots (Does node t) = is_boot t
  boots (Asks node serial) = false

  abbrev restarts : Part → Bool
  restarts (Does node t) = is_restart t
  restarts (Asks node serial) = false

  abbrev Suits : Reading → Part → Type 0
  Suits said p = (boots p ≡ false) × (restarts p ≡ true → said ≡ Says Settle)

  asked_kind : (q : Question) (node : List ℕ) (t : Task) → asked_by q ≡ Some (record { node = node; task = t }) → (is_boot t ≡ false) × (is_restart t ≡ false)
  asked_kind (Heard m) node t e = let task : Hears m ≡ t = ap (λ (y : TaskAt). y.task) (some_is _ _ e) in (subst (λ y. is_boot y ≡ false) task refl, subst (λ y. is_restart y ≡ false) task refl)
  asked_kind Unanswered node t e = let no : ⊥ = cc in absurd no
  asked_kind (Doubtful k) node t e = let no : ⊥ = cc in absurd no

  task_suits : (said : Reading) (w : World) (p : Part) (node : List ℕ) (t : Task) → task_of_part w p ≡ Some (record { node = node; task = t }) → Suits said p → (is_boot t ≡ false) × (is_restart t ≡ true → said ≡ Says Settle)
  task_suits said w (Does other u) node t e h = let task : u ≡ t = ap (λ (y : TaskAt). y.task) (some_is _ _ e) in (subst (λ y. is_boot y ≡ false) task h.0, λ r. h.1 (ap is_restart task ∙ r))
  task_suits said w (Asks other serial) node t e h = let k = asked_kind (question w other serial) node t e in (k.0, λ r. absurd (both_ways (is_restart t) k.1 r))

  part_comes : (said : Reading) (w : World) (p : Part) (c : Choice) (after : List DiskCounts) → Allowed w p after c → Suits said p → IsStaying w → AllCome said (part_effect w p c).lines
  part_comes said w p c after allowed suits h = go (view w p)
    where
      go : View w p → AllCome said (part_effect w p c).lines
      go (Fixed answer ends kind is) = subst (λ (y : PartEffect). AllCome said y.lines) (sym (is c)) (none_come said)
      go (Doing node t n named found does may) = subst (λ (y : PartEffect). AllCome said y.lines) (sym (does c)) (by (bytes_eq node x.node) refl)
        where
          by : (b : Bool) → bytes_eq node x.node ≡ b → AllCome said (task_effect w.shared (stops_at node w) n t c).lines
          by true is =
              let same : node ≡ x.node = (bytes_eq-Decides node x.node).0 is in
              let k = task_suits said w p node t named suits in
              effect_comes said w.shared (stops_at node w) n t c (λ cause. RoseAt w node cause after) (may after c allowed) (h.tracked n (subst (λ name. find_node name w.nodes ≡ Some n) same found)) (found_name node w.nodes n found ∙ same) k.0 k.1
          by false is = foreign_comes said w.shared (stops_at node w) n t c (λ cause. RoseAt w node cause after) (sound_node w h.sound node n found) (may after c allowed)
              (λ name. both_ways (bytes_eq node x.node) is ((bytes_eq-Decides node x.node).1 (sym (found_name node w.nodes n found) ∙ name)))

  -- Statements.

  abbrev is_boot_statement : Statement → Bool
  is_boot_statement (At node Boot) = true
  is_boot_statement _ = false

  boot_is : (s : Statement) → is_boot_statement s ≡ true → (node : List ℕ) × (s ≡ At node Boot)
  boot_is (At node Boot) e = (node, refl)
  boot_is (At node _) e = let no : ⊥ = cc in absurd no
  boot_is (Deliver number) e = let no : ⊥ = cc in absurd no
  boot_is (LinkDown a b) e = let no : ⊥ = cc in absurd no
  boot_is Settle e = let no : ⊥ = cc in absurd no

  -- no restart
  no_restart : {said : Reading} → false ≡ true → said ≡ Says Settle
  no_restart e = let no : ⊥ = cc in absurd no

  all_suit : (s : Statement) → is_boot_statement s ≡ false → EachPhase (Suits (Says s)) (phases_of s)
  all_suit Settle other = (λ u. each_restart (Suits (Says Settle)) (λ node. (refl, λ e. refl)) u.nodes, (λ u. each_run_down (Suits (Says Settle)) (λ node. (refl, λ e. refl)) u.nodes, (λ u. all_asked (Suits (Says Settle)) (λ node serial. (refl, λ e. refl)) u.nodes, tt)))
  all_suit (LinkDown a b) other = (each_up (Suits (Says (LinkDown a b))) a (LosesLink b) (refl, no_restart), (each_up (Suits (Says (LinkDown a b))) b (LosesLink a) (refl, no_restart), tt))
  all_suit (Deliver number) other = ((λ u. delivered (message_at number u.shared.wire)), tt)
    where
      delivered : (o : Option Message) → EachPart (Suits (Says (Deliver number))) (elim o [ Some m ↦ Does m.to (Takes m) ∷ [] | None ↦ [] ])
      delivered (Some m) = ((refl, no_restart), tt)
      delivered None = tt
  all_suit (At node request) other = go request other
    where
      one : (r : Request) → is_boot (Serves r) ≡ false → phases_of (At node r) ≡ (λ u. Does node (Serves r) ∷ []) ∷ [] → EachPhase (Suits (Says (At node r))) (phases_of (At node r))
      one r q is = subst (λ (ps : List Phase). EachPhase (Suits (Says (At node r))) ps) (sym is) ((λ u. ((q, no_restart), tt)), tt)

      go : (r : Request) → is_boot_statement (At node r) ≡ false → EachPhase (Suits (Says (At node r))) (phases_of (At node r))
      go (Clock now) q = ((λ u. ((refl, no_restart), tt)), (each_up (Suits (Says (At node (Clock now)))) node Ticks (refl, no_restart), tt))
      go Boot q = let no : ⊥ = cc in absurd no
      go r q = one r refl refl

  step_comes : (w v : World) (s : Statement) (lines : List Line) → is_boot_statement s ≡ false → (step : Step w s lines v) → IsStaying w → AllCome (Says s) step.events
  step_comes w v s lines other step h = go (refused_at_once w s) step.does
    where
      go : (o : Option Line) → Begins o (Phases (phases_of s) v.disks (begun_with s w) line.Normal) w step.events step.answer step.world → AllCome (Says s) step.events
      go (Some refusal) d = subst (AllCome (Says s)) (sym d.0) (none_come (Says s))
      go None d = phases_fold v.disks (Suits (Says s)) (λ given. Unit {0}) (λ u rest answer z. IsStaying u → AllCome (Says s) rest)
          (λ u given q k. none_come (Says s))
          (λ u p c ok allowed ends k. part_comes (Says s) u p c v.disks allowed ok k)
          (λ u p c ok allowed on. (tt, λ rest answer z more k. come_append (Says s) (part_effect u p c).lines rest (part_comes (Says s) u p c v.disks allowed ok k) (more (part_stays u p c v.disks allowed k))))
          (phases_of s) (all_suit s other) (begun_with s w) line.Normal step.events step.answer step.world tt d (begins_on (staying x) (staying_keeps x) x.node tt (λ ls. refl) (λ n. tt) s w h)

  turn_comes : (w v : World) (s : Statement) → is_boot_statement s ≡ false → IsStaying w → (front behind : List Line) (reason : Option Reason) (moment : ℕ) → LineTurn w (Says s) (front ++ ended_line x reason moment ∷ behind) v → Comes (Says s) behind reason
  turn_comes w v s other h front behind reason moment step = elim (split_append step.events (step.answer ∷ []) front (ended_line x reason moment) behind (sym step.shows)) [
    | inl r ↦ subst (λ b. Comes (Says s) b reason) (sym r.2) (more_come (Says s) r.0 (step.answer ∷ []) reason (step_comes w v s (front ++ ended_line x reason moment ∷ behind) other step h front r.0 reason moment r.1))
    | inr r ↦ absurd (plain_never x (step.answer ∷ []) r.0 behind reason moment (answer_plain w v s (front ++ ended_line x reason moment ∷ behind) step, tt) r.2)
  ]

-- A BOOT shows no settlement but those that it undid.
module _ (es : List Entry) (node : List ℕ) (said : Reading) (is : said ≡ Says (At node Boot)) (tid : Id) where
  undelivered : {kind : message.Kind} {serial : Id} → DeliversTo es said kind tid serial → ⊥
  undelivered d = let clash : Says (At node Boot) ≡ Says (Deliver d.0) = sym is ∙ d.2 in let no : ⊥ = cc in no

  no_commit : (front : List Line) → CommitCause es said front tid tid ⊎ IsDirect said tid tid → ⊥
  no_commit front (inl (inl c)) = let clash : Says (At node Boot) ≡ Says (At tid.node (EndTrans c.0)) = sym is ∙ c.1 in let no : ⊥ = cc in no
  no_commit front (inl (inr (inl (inl v, was, same)))) = undelivered v.1
  no_commit front (inl (inr (inl (inr v, was, same)))) = undelivered v.1
  no_commit front (inl (inr (inr (inl r)))) = let clash : Says (At node Boot) ≡ Says (At tid.node (Rattle.run_said.specs.script_model.Statements.AckEvent (r.1).0 (r.1).1 r.0)) = sym is ∙ (r.1).2 in let no : ⊥ = cc in no
  no_commit front (inl (inr (inr (inr (inl d))))) = undelivered d
  no_commit front (inl (inr (inr (inr (inr a))))) = let clash : Says (At node Boot) ≡ Says Settle = sym is ∙ a.0 in let no : ⊥ = cc in no
  no_commit front (inr c) = let clash : Says (At node Boot) ≡ Says (At tid.node (Rattle.run_said.specs.script_model.Statements.Direct c.0 c.1)) = sym is ∙ c.2 in let no : ⊥ = cc in no

  undone : (front behind : List Line) (reason : Reason) → AbortCause es said front reason tid tid → IsUndoneByBoot said behind tid (Some reason)
  undone front behind Aborted (inl c) = let clash : Says (At node Boot) ≡ Says (At tid.node (Rattle.run_said.specs.script_model.Statements.AbortTrans c.0)) = sym is ∙ c.1 in let no : ⊥ = cc in absurd no
  undone front behind Aborted (inr (inl d)) = absurd (undelivered d)
  undone front behind Aborted (inr (inr a)) = let clash : Says (At node Boot) ≡ Says Settle = sym is ∙ a.0 in let no : ⊥ = cc in absurd no
  undone front behind Vetoed (inl (v, more)) = absurd (undelivered v.1)
  undone front behind Vetoed (inr (r, begun)) = let clash : Says (At node Boot) ≡ Says (At tid.node (Rattle.run_said.specs.script_model.Statements.AckEvent r.0 r.1 message.VetoReply)) = sym is ∙ r.2 in let no : ⊥ = cc in absurd no
  undone front behind SyncFail (inl c) = let clash : Says (At node Boot) ≡ Says (At tid.node (EndTrans c.0)) = sym is ∙ c.1 in let no : ⊥ = cc in absurd no
  undone front behind SyncFail (inr (d, begun)) = absurd (undelivered d)
  undone front behind Timeout c = let clash : Says (At node Boot) ≡ Says (At tid.node (Clock c.0)) = sym is ∙ c.1 in let no : ⊥ = cc in absurd no
  undone front behind CommFail c = let clash : Says (At node Boot) ≡ Says (LinkDown c.0 c.1) = sym is ∙ c.2 in let no : ⊥ = cc in absurd no
  undone front behind SegFail (inl settles) = let clash : Says (At node Boot) ≡ Says Settle = sym is ∙ settles in let no : ⊥ = cc in absurd no
  undone front behind SegFail (inr boot) = (refl, inl boot)

-- What END_TRANS leaves.

-- where it is answered that something is missing, what is left of its branch is ending
left_ending : (b y : Branch) (bs : List Branch) → all_taken b.bids b.accepted ≡ true → In y (tables (end_row b) bs) → In y (Rattle.commit_protocol.specs.Table.put (ending b) bs)
left_ending b y bs taken i = go (subst (λ t. In y (tables (if t then begins_ending b else rows.aborts SyncFail b) bs)) taken i)
  where
    event : message.RmEvent
    event = which_event b.changed b.accepted b.managers

    new : List Branch
    new = Rattle.commit_protocol.specs.Table.put (ending b) bs

    all : (t : Bool) → In y (tables (if t then rows.commits (ending b) [] else []) new) → In y new
    all true j = in_cut b.key y new (subst (In y) (sends_tables (to_each message.Commit b.key.tid (rows.yes_of b.accepted)) (tells message.CommitEvent b.key (table.holding (ending b).managers) ++ []) (table.cut b.key new) ∙ tells_tables message.CommitEvent b.key (table.holding (ending b).managers) [] (table.cut b.key new)) j)
    all false j = j

    go : In y (tables (begins_ending b) bs) → In y new
    go j = all (all_voted b.accepted && all_replied (ending b).managers) (subst (In y) (sends_tables (to_each message.Prepare b.key.tid (serials b.accepted)) (tells event b.key (joined b.managers) ++ commits_if_all (ending b) []) new ∙ tells_tables event b.key (joined b.managers) (commits_if_all (ending b) []) new) j)

pub ended_stays : (nodes : List Node) (disks : List DiskCounts) (es : List Entry) (w : World) → AreOpening nodes → Legal (opened nodes disks) es w → (tid : Id) → WasEnded es tid → IsStaying tid w
ended_stays nodes disks es w opening legal tid (before, label, events, missing, rms, there, begun) = path_stays tid r.0 w there.after r.2 start
  where
    r : (v : World) × Legal (opened nodes disks) (there.entry ∷ before) v × Legal v there.after w
    r = split_legal (opened nodes disks) w there.after (there.entry ∷ before) (subst (λ y. Legal (opened nodes disks) y w) there.stands legal)

    u : World
    u = (r.1).0

    turn : LineTurn (r.1).0 (Says (At tid.node (EndTrans label))) there.entry.lines r.0
    turn = subst (λ y. LineTurn (r.1).0 y there.entry.lines r.0) there.said (r.1).2

    step : Step (r.1).0 (At tid.node (EndTrans label)) (events ++ line.Pending missing rms ∷ []) r.0
    step = subst (λ lines. Step (r.1).0 (At tid.node (EndTrans label)) lines r.0) there.shown turn

    named : Rattle.run_laws.proofs.Named.Named before (r.1).0
    named = legal_named nodes disks before (r.1).0 opening (r.1).1

    d : Rattle.run_laws.proofs.Ending.Done (r.1).0 r.0 tid.node (EndTrans label) events (line.Pending missing rms)
    d = done (r.1).0 r.0 tid.node (EndTrans label) events (line.Pending missing rms) refl refl refl refl (λ cause e. let no : ⊥ = cc in no) step

    b : (b : Branch) × (branch_labelled (r.1).0.shared d.n label ≡ Some b) × (answers.is_first_active b ≡ true) × Rattle.run_laws.specs.Causes.WasBegun before tid.node label b.key.tid × (all_taken b.bids b.accepted ≡ true) × (answers.end_answer (end_row b) line.Normal ≡ line.Pending missing rms)
    b = ends_waiting before (r.1).0 r.0 tid.node label events (line.Pending missing rms) named d missing rms refl

    active : ((b.0).key ≡ first (b.0).key.tid) × ((b.0).state ≡ table.Active)
    active = active_is b.0 b.2

    nb : Rattle.run_laws.proofs.Ending.NamedBranch before tid.node label b.0
    nb = named_branch before (r.1).0 tid.node label d.n b.0 named d.found b.1 (active_unprepared b.0 active.1)

    same : (b.0).key.tid ≡ tid
    same =
        let q = begun_named nodes disks before (r.1).0 opening (r.1).1 tid.node label tid begun in
        sym nb.named.3 ∙ ap (λ (l : Rattle.run_laws.specs.Naming.ToldLabel). l.tid) (some_is nb.named.0 q.0 (sym nb.named.1 ∙ q.1)) ∙ q.2

    -- it is a first branch
    s : (v0 : World) × Legal (opened nodes disks) (begun.2.entry ∷ begun.0) v0 × Legal v0 begun.2.after (r.1).0
    s = split_legal (opened nodes disks) (r.1).0 begun.2.after (begun.2.entry ∷ begun.0) (subst (λ y. Legal (opened nodes disks) y (r.1).0) begun.2.stands (r.1).1)

    started : (tid.node ≡ tid.node) × Rattle.run_laws.proofs.Beginning.Begins tid (s.1).0 s.0
    started = transaction_begins (s.1).0 s.0 tid.node label begun.1 tid (legal_sound (opened nodes disks) (s.1).0 begun.0 (opening_sound nodes disks opening) (s.1).1) (subst (λ lines. Step (s.1).0 (At tid.node (StartTrans label begun.1)) lines s.0) begun.2.shown (subst (λ y. LineTurn (s.1).0 y begun.2.entry.lines s.0) begun.2.said (s.1).2))

    first_v : IsFirst tid r.0
    first_v = first_on tid nodes disks opening (begun.2.entry ∷ begun.0) (there.entry ∷ begun.2.after) s.0 r.0 s.1 ((r.1).0, s.2, (r.1).2) started.1.is_first

    -- and what is left of it is ending
    rows_so : (service (EndTrans label)).rows (r.1).0.shared d.n ≡ table_rows (end_row b.0) (r.1).0.shared d.n
    rows_so = ap (λ (o : Option Branch). elim o as (λ y. List Row) [ Some y ↦ told_rows (r.1).0.shared d.n (just (rows.EndTrans y.key.tid)) | None ↦ [] ]) b.1 ∙ ap (λ todo. table_rows todo (r.1).0.shared d.n) (row_is d.n b.0 (label_of (r.1).0.shared d.n label b.0 b.1).finds b.2)

    up : d.n.up ≡ true
    up = Rattle.run_laws.proofs.Labelling.served_up d.n _ d.first

    sound : IsSound (r.1).0
    sound = legal_sound (opened nodes disks) (r.1).0 before (opening_sound nodes disks opening) (r.1).1

    ends : (m : Node) → find_node tid.node r.0.nodes ≡ Some m → (y : Branch) → In y m.volatile.branches → y.key ≡ first tid → y.state ≡ Ending
    ends m found y i key =
        let is : m ≡ (succeeded (r.1).0.shared d.n (service (EndTrans label))).node = some_is m _ (sym found ∙ d.left) in
        let left : m.volatile.branches ≡ tables (end_row b.0) d.n.volatile.branches = ap (λ (z : Node). z.volatile.branches) is ∙ ap (λ rs. (node_after_rows rs d.n).volatile.branches) rows_so ∙ rows_tables (end_row b.0) (r.1).0.shared d.n in
        let put : In y (Rattle.commit_protocol.specs.Table.put (ending b.0) d.n.volatile.branches) = left_ending b.0 y d.n.volatile.branches b.4 (subst (In y) left i) in
        let one : y ≡ ending b.0 = put_one (ending b.0) y d.n.volatile.branches (differ d.n ((sound.kept tid.node d.n d.found).runs up).0.table) put (key ∙ ap first (sym same) ∙ sym active.0) in
        ap (λ (z : Branch). z.state) one

    kept : (m : Node) → find_node tid.node r.0.nodes ≡ Some m → Kept (staying tid) (staying_keeps tid) tt m
    kept m found =
        let f = first_v.tracked m found in
        record {
          disk = record { of = f.disk.of; unprepared = λ q i e. f.disk.prepared q i e };
          way = λ act e. (let g = f.way act e in record { of = g.of; unprepared = λ q i k. g.prepared q i k });
          runs = λ on.
              let g = f.runs on in
              record {
                drawn = g.drawn;
                fresh = λ e. let no : ⊥ = cc in absurd no;
                branch = λ y i e.
                    let key : y.key ≡ first tid = λ j. record { tid = (g.branch y i e).0 j; serial = e j } in
                    (key, ends m found y i key);
              };
        }

    start : IsStaying tid r.0
    start = record { sound = first_v.sound; used = first_v.used; tracked = kept }

pub ended_comes_hold : EndedComesHold
ended_comes_hold nodes disks es closing opening legal before said front behind tid ended moment there was = go said refl
  where
    r : (v : World) × Legal (opened nodes disks) (there.entry ∷ before) v × Legal v there.after closing
    r = split_legal (opened nodes disks) closing there.after (there.entry ∷ before) (subst (λ y. Legal (opened nodes disks) y closing) there.stands legal)

    staying_then : IsStaying tid (r.1).0
    staying_then = ended_stays nodes disks before (r.1).0 opening (r.1).1 tid was

    turn : (q : Reading) → said ≡ q → LineTurn (r.1).0 q (front ++ ended_line tid ended moment ∷ behind) r.0
    turn q is = subst (λ lines. LineTurn (r.1).0 q lines r.0) there.shown (subst (λ y. LineTurn (r.1).0 y there.entry.lines r.0) (there.read ∙ is) (r.1).2)

    booted : (node : List ℕ) → said ≡ Says (At node Boot) → (reason : Option Reason) → ShownThere es before said front (ended_line tid reason moment) behind → In (line.Ended tid reason) behind ⊎ (IsUndoneByBoot said behind tid reason ⊎ ((cause : Cause) × In (line.Down tid.node cause) behind))
    booted node is None at = absurd (no_commit before node said is tid front (commits_hold nodes disks es closing opening legal before said front behind tid tid moment at).0)
    booted node is (Some reason) at = inr (inl (undone before node said is tid front behind reason (aborted_hold nodes disks es closing opening legal before said front behind tid tid reason moment at).0))

    says : (s : Statement) → said ≡ Says s → (b : Bool) → is_boot_statement tid s ≡ b → In (line.Ended tid ended) behind ⊎ (IsUndoneByBoot said behind tid ended ⊎ ((cause : Cause) × In (line.Down tid.node cause) behind))
    says s is true boot = let k = boot_is tid s boot in booted k.0 (is ∙ ap Says k.1) ended there
    says s is false other = subst (λ q. In (line.Ended tid ended) behind ⊎ (IsUndoneByBoot q behind tid ended ⊎ ((cause : Cause) × In (line.Down tid.node cause) behind))) (sym is) (turn_comes tid (r.1).0 r.0 s other staying_then front behind ended moment (turn (Says s) is))

    go : (q : Reading) → said ≡ q → In (line.Ended tid ended) behind ⊎ (IsUndoneByBoot said behind tid ended ⊎ ((cause : Cause) × In (line.Down tid.node cause) behind))
    go (Says s) is = says s is (is_boot_statement tid s) refl
    go Blank is = absurd (never_empty front (ended_line tid ended moment) behind (sym (turn Blank is).0))
    go (Bad column) is = absurd (turn (Bad column) is)
