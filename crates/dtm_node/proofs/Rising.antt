-- A node that was down is up with its volume, or its disk went down while it was reopened.
use Rattle.std.proofs.Common.{◌≡◌, ℕ, suc, ◌+◌, List, [], ◌∷◌, ◌++◌, Bool, true, false, Option, Some, None, length, map, refl, ◌∙◌, ap, sym, subst, append_assoc, append-nil, arith}
use Rattle.std.specs.List.{AllByRecursion}
use Rattle.block_disk.specs.Disk.{CallLog, DiskState, noted}
use Rattle.block_disk.specs.declared.disk.DiskCall.TheVariants as disk_call
use Rattle.emitter_model.specs.commit_protocol.Messages.{LogRecord, Message}
use Rattle.emitter_model.specs.commit_protocol.Table.{Branch, branches_of, record_key}
use Rattle.world_laws.specs.log_laws.Slots.{Slots, committed_of, records_in}
use Rattle.tm_types.specs.Parts.{log_record_of}
use Rattle.emitter_model.specs.Emitting.{Emits, Shown}
use Rattle.emitter_model.specs.transcript_model.Lines as line
use Rattle.emitter_model.specs.transcript_model.Lines.{Cause, Line}
use Rattle.emitter_model.specs.transcript_model.Outside.{Rose}
use Rattle.script_lang.specs.script_model.Statements.{Boot}
use Rattle.unit_table.specs.Units.{OpenUnit}
use Rattle.vms_base.specs.declared.protocol.LogRec.{LogRec}
use Rattle.vms_model.specs.Transactions.{Abort, Commit, Outcome, Reason}
use Rattle.volume.specs.State.{VolumeState}
use Rattle.recovery_units.specs.volume_model.Homes.{last_of}
use Rattle.world_laws.specs.run_model.Answers.{Restarts, Row, Serves, Task, last_line, last_lines, left_active, prepared_line, prepared_lines, refused_before_reading, task_service}
use Rattle.world_laws.specs.run_model.Steps.{NodeStep, count_of, node_after_rows}
use Rattle.world_laws.specs.run_model.World.{Boots, ComesUp, Node, Settlement, Shared, acted, powered}
use Rattle.world_laws.specs.Nodes as laws
use Rattle.world_laws.specs.Nodes.{IsKeptNode}
use Rattle.recovery_units.specs.Calls.{ReopensTo, after_undone}
use Rattle.recovery_units.specs.State.{AreOfBranches}
use Rattle.recovery_units.specs.Uses.{IsCounted}
use Rattle.run_shared.specs.Sharing.{SharedState}
use Rattle.node_requests.specs.node_table.Running.{IsBooted}
use Rattle.node_requests.specs.node_table.Standing.{Up}
use Rattle.node_requests.specs.node_table.Telling.{IsOfWork, wire_after}
use Rattle.dtm_node.specs.Causes.{cause_of}
use Rattle.dtm_node.specs.Nodes.{last_lines_of, undone_line}
use Rattle.dtm_node.specs.Opening.{EndsBoot, OpensUp, RaisesTo, ReopensDown, ReopensUp, Rises, RisesHere, answer_up, kept_down, prepared_told, shown_up, used}
use Rattle.node_requests.specs.node_standing.Standing.{RepresentsNode, counts_of, disk_of}
use Rattle.node_requests.specs.node_standing.Telling.{DiskAdvancesOverCalls}
use Rattle.node_requests.specs.TheLaws.{TheLaws}
use Rattle.dtm_node.proofs.BootEnds.{each_boot, early_boot, early_restart, ends_boot, fallen_end, fallen_rose, shares_used}
use Rattle.dtm_node.proofs.Booting.{boot_broke, boot_risen, risen_stands}
use Rattle.dtm_node.proofs.BootSteps.{IsBoot, boot_is, in_use, restart_is}
use Rattle.dtm_node.proofs.Passing.{passes_goes, rose_behind}
use Rattle.dtm_node.proofs.Performing.{kept_up, rose_of}
use Rattle.dtm_node.proofs.Restarting.{all_rows, undone_branches, undone_nodes, undone_same, undone_unsent, undone_work}
use Rattle.node_requests.proofs.SaysLemmas.{all_on}

-- What a boot shows is the node's work, by which nothing is sent.

abbrev Works : List Line → Type 0
Works ls = AllByRecursion IsOfWork ls × ((wire : List Message) → wire_after ls wire ≡ wire)

last_line_works : (s : Settlement) → Works (last_line s)
last_line_works s = by_outcome s.outcome
  where
    by_reason : (r : Option Reason) → Works (elim r [ Some reason ↦ line.LastAborted s.tid s.serial reason s.moment ∷ [] | None ↦ [] ])
    by_reason (Some reason) = ((refl, tt), λ wire. refl)
    by_reason None = (tt, λ wire. refl)

    by_outcome : (o : Outcome) → Works (elim o [ Commit ↦ line.LastCommitted s.tid s.serial s.moment ∷ [] | Abort ↦ elim s.reason [ Some reason ↦ line.LastAborted s.tid s.serial reason s.moment ∷ [] | None ↦ [] ] ])
    by_outcome Commit = ((refl, tt), λ wire. refl)
    by_outcome Abort = by_reason s.reason

last_works : (o : Option Settlement) → Works (elim o [ Some s ↦ last_line s | None ↦ [] ])
last_works None = (tt, λ wire. refl)
last_works (Some s) = last_line_works s

prepared_works : (rs : List LogRec) → AllByRecursion IsOfWork (map prepared_told rs)
prepared_works [] = tt
prepared_works (r ∷ rs) = (refl, prepared_works rs)

prepared_unsent : (rs : List LogRec) (wire : List Message) → wire_after (map prepared_told rs) wire ≡ wire
prepared_unsent [] wire = refl
prepared_unsent (r ∷ rs) wire = prepared_unsent rs wire

wire_on : (xs ys : List Line) (wire : List Message) → wire_after (xs ++ ys) wire ≡ wire_after ys (wire_after xs wire)
wire_on [] ys wire = refl
wire_on (x ∷ xs) ys wire = wire_on xs ys (wire_after (x ∷ []) wire)

both_unsent : (xs ys : List Line) → ((wire : List Message) → wire_after xs wire ≡ wire) → ((wire : List Message) → wire_after ys wire ≡ wire) → (wire : List Message) → wire_after (xs ++ ys) wire ≡ wire
both_unsent xs ys f g wire = wire_on xs ys wire ∙ ap (wire_after ys) (f wire) ∙ g wire

-- The prepared branches, as they are told and as the world shows them.
told_prepared : (rs : List LogRec) → map prepared_line (branches_of (map log_record_of rs)) ≡ map prepared_told rs
told_prepared [] = refl
told_prepared (r ∷ rs) = ap (λ (ls : List Line). prepared_told r ∷ ls) (told_prepared rs)

same_many : (us : List OpenUnit) (bs cs : List Branch) → AreOfBranches us bs → AreOfBranches us cs → length bs ≡ length cs
same_many [] [] [] h k = refl
same_many [] [] (c ∷ cs) h k = absurd k
same_many [] (b ∷ bs) cs h k = absurd h
same_many (u ∷ us) [] cs h k = absurd h
same_many (u ∷ us) (b ∷ bs) [] h k = absurd k
same_many (u ∷ us) (b ∷ bs) (c ∷ cs) h k = ap suc (same_many us bs cs h.1 k.1)

regroup : (l u p s : List Line) → (l ++ u) ++ (p ++ s) ≡ (l ++ (u ++ p)) ++ s
regroup l u p s = append_assoc l u (p ++ s) ∙ ap (λ (x : List Line). l ++ x) (sym (append_assoc u p s)) ∙ sym (append_assoc l (u ++ p) s)

module _ (the_laws : TheLaws) (log : CallLog) (s : Shared) (n : Node) (name : List ℕ) (clock : ℕ) (has_parts : Bool) (d0 : DiskState) (h : RepresentsNode log (kept_down name clock has_parts d0) n) (v : VolumeState) (o : RaisesTo d0 v n) (boot : ℕ) (r : Up) (a b : Shown) (up : ReopensUp clock v boot r a b)
    (passes : DiskAdvancesOverCalls d0 (disk_of r)) (calls : (disk_of r).calls ≡ noted (disk_call.Power d0.stops) d0.calls) where
  abbrev woken : Node
  woken = powered o.wakes.outturn d0.stops n

  abbrev raised : Node
  raised = acted Boots woken

  abbrev undone : Node
  undone = after_undone (length (left_active woken)) raised (left_active woken)

  abbrev lines : List Line
  lines = last_lines_of v.catalog.home ++ (map undone_line up.told.settled ++ map prepared_told up.told.prepared)

  done : ReopensTo up.told raised r.stored.units r.stored.volume
  done = up.done raised o.restarting (o.wakes.woken.clock ∙ h.clock)

  prepared_is : prepared_lines woken ≡ map prepared_told up.told.prepared
  prepared_is = sym (ap (λ (rs : List LogRecord). map prepared_line (branches_of rs)) done.prepared) ∙ told_prepared up.told.prepared

  boot_count : woken.durable.boot + 1 ≡ boot
  boot_count = o.restarting.leaves.home.boot ∙ sym up.boot_is

  woken_name : woken.name ≡ name
  woken_name = o.wakes.woken.name ∙ h.name

  last_shown : last_lines woken ≡ last_lines_of v.catalog.home
  last_shown = ap (λ (x : Option Settlement). elim x [ Some y ↦ last_line y | None ↦ [] ]) o.restarting.leaves.home.last

  step_of : (t : Task) (p : IsBoot t) → refused_before_reading s n (task_service t) ≡ None → (task_service t).closing_lines woken ≡ prepared_lines woken ++ shown_up t name boot → (task_service t).answer s woken ≡ answer_up t boot
      → NodeStep s n (counts_of d0) t (lines ++ shown_up t name boot) (answer_up t boot) false (acted ComesUp undone) (in_use s) (counts_of (disk_of r))
  step_of t p early closing answer =
      subst (λ (ls : List Line). NodeStep s n (counts_of d0) t ls (answer_up t boot) false (acted ComesUp undone) (in_use s) (counts_of (disk_of r)))
      (ap (λ (ls : List Line). (last_lines woken ++ map undone_line up.told.settled) ++ ls) closing ∙ regroup (last_lines woken) (map undone_line up.told.settled) (prepared_lines woken) (shown_up t name boot)
      ∙ (λ i. (last_shown i ++ (map undone_line up.told.settled ++ prepared_is i)) ++ shown_up t name boot))
      (subst (λ (x : Line). NodeStep s n (counts_of d0) t ((last_lines woken ++ map undone_line up.told.settled) ++ (task_service t).closing_lines woken) x false (acted ComesUp undone) (in_use s) (counts_of (disk_of r))) answer
      (boot_risen log s n name clock has_parts d0 h t p early o.ready o.wakes up.told r passes o.free done.settled))

  step_boot : NodeStep s n (counts_of d0) (Serves Boot) (lines ++ shown_up (Serves Boot) name boot) (answer_up (Serves Boot) boot) false (acted ComesUp undone) (in_use s) (counts_of (disk_of r))
  step_boot = step_of (Serves Boot) boot_is (early_boot s n h.place.down h.unmade) (sym (append-nil (prepared_lines woken))) (ap (λ (c : ℕ). line.NormalCount c) boot_count)

  step_restart : NodeStep s n (counts_of d0) Restarts (lines ++ shown_up Restarts name boot) (answer_up Restarts boot) false (acted ComesUp undone) (in_use s) (counts_of (disk_of r))
  step_restart = step_of Restarts restart_is (early_restart s n h.place.down h.unmade) (λ i. prepared_lines woken ++ line.Booted (woken_name i) (boot_count i) ∷ []) refl

  -- the node of the world that is up
  up_there : laws.IsUp (acted ComesUp undone)
  up_there = subst (λ (m : Node). laws.IsUp (acted ComesUp m))
      (ap (λ (rs : List Row). node_after_rows rs raised) (sym (all_rows s raised (left_active woken))) ∙ undone_nodes (length (left_active woken)) s raised (left_active woken))
      (the_laws.boots s woken o.wakes.awake.booting.kept).up

  branches_left : undone.volatile.branches ≡ raised.volatile.branches
  branches_left = undone_branches (length (left_active woken)) raised (left_active woken) (
      let there : length raised.volatile.branches ≡ length (branches_of (map log_record_of up.told.prepared)) = sym (ap (λ (rs : List LogRecord). length (branches_of rs)) done.prepared) in
      let here : length (branches_of (map log_record_of up.told.prepared)) ≡ length undone.volatile.branches = same_many r.stored.units.begun (branches_of (map log_record_of up.told.prepared)) undone.volatile.branches up.units done.kept.branches in
      omega (arith, there, here))

  booted : IsBooted clock up.told r.stored (acted ComesUp undone)
  booted =
      let stays = undone_same (length (left_active woken)) raised (left_active woken) in
      record {
        kept = the_laws.nodes.comes r.stored.units r.stored.volume undone done.kept up_there;
        is_up = up_there;
        name = done.kept.name;
        branches = branches_left ∙ sym (ap branches_of done.prepared);
        records = stays.records ∙ ap (λ (ss : Slots). committed_of (records_in ss)) (sym stays.log ∙ done.kept.log) ∙ sym up.committed;
        preparation = stays.preparation ∙ sym (ap (map record_key) done.prepared);
        drawn = stays.drawn;
        declared = stays.declared;
        clock_is = stays.same.clock ∙ o.wakes.woken.clock ∙ h.clock;
        up = refl;
        was_up = refl;
        under_way = stays.under_way ∙ o.wakes.woken.under_way;
      }

  pub rises_here : RisesHere log s n (kept_down name clock has_parts d0) lines boot (kept_up name clock r)
  rises_here = record {
    node = acted ComesUp undone;
    step = each_boot (λ t. NodeStep s n (counts_of d0) t (lines ++ shown_up t name boot) (answer_up t boot) false (acted ComesUp undone) (in_use s) (counts_of (disk_of r))) step_boot step_restart;
    stands = risen_stands log s n name clock has_parts d0 h Restarts restart_is (early_restart s n h.place.down h.unmade) o.ready o.wakes r passes calls (up.stands (acted ComesUp undone) booted);
  }

module _ (the_laws : TheLaws) (name : List ℕ) (clock : ℕ) (has_parts : Bool) (d0 : DiskState) (q : Up) (opens : OpensUp (kept_down name clock has_parts d0) q) where
  -- the node came up
  pub came_up : (boot : ℕ) (r : Up) (a b : Shown) → ReopensUp clock q.stored.volume boot r a b → (s : SharedState) → Rises (kept_down name clock has_parts d0) s boot a b (kept_up name clock r) (used s)
  came_up boot r a b up s =
      let home = q.stored.volume.catalog.home in
      let undone = map undone_line up.told.settled in
      let prepared = map prepared_told up.told.prepared in
      let last = last_works (last_of home) in
      let passes = passes_goes d0 (disk_of q) (disk_of r) opens.passes up.goes in
      let calls = up.goes.calls ∙ opens.calls in
      record {
        lines = last_lines_of home ++ (undone ++ prepared);
        emits = up.emits;
        work = all_on IsOfWork (last_lines_of home) (undone ++ prepared) last.0 (all_on IsOfWork undone prepared (undone_work up.told.settled) (prepared_works up.told.prepared));
        unsent = both_unsent (last_lines_of home) (undone ++ prepared) last.1 (both_unsent undone prepared (undone_unsent up.told.settled) (prepared_unsent up.told.prepared));
        kept = refl;
        up = refl;
        shared = refl;
        calls = calls;
        passes = passes;
        world = λ log n w h share kept promised. rises_here the_laws log w n name clock has_parts d0 h q.stored.volume (opens.world log n w h kept promised) boot r a b up passes calls;
      }

  -- or its disk went down in that
  pub came_down : (d : DiskState) (a b : Shown) (down : ReopensDown name clock q.stored.volume d a b) → (let ls : List Line = last_lines_of q.stored.volume.catalog.home ++ map undone_line down.told.settled in
      EndsBoot (kept_down name clock has_parts d0) (ls ++ line.Down name (cause_of down.down) ∷ []) (line.Broken (cause_of down.down)) true (kept_down name clock true d))
  came_down d a b down =
      let v = q.stored.volume in
      let home = v.catalog.home in
      let undone = map undone_line down.told.settled in
      let cause = cause_of down.down in
      let last = last_works (last_of home) in
      let work = all_on IsOfWork (last_lines_of home) undone last.0 (undone_work down.told.settled) in
      let passes = passes_goes d0 (disk_of q) d opens.passes down.goes in
      let calls = down.goes.calls ∙ opens.calls in
      let rose : IsCounted d0 → Rose (count_of cause (counts_of d0)) (count_of cause (counts_of d)) = λ counted. rose_behind cause d0 (disk_of q) d counted opens.passes (rose_of down.down (disk_of q) d down.cause (opens.passes.counted counted)) in
      ends_boot name clock has_parts true d0 d ((last_lines_of home ++ undone) ++ line.Down name cause ∷ []) (line.Broken cause) true true
      (fallen_end name (last_lines_of home ++ undone) cause work (both_unsent (last_lines_of home) undone last.1 (undone_unsent down.told.settled))) passes calls (fallen_rose name (last_lines_of home ++ undone) cause d0 d work rose) (λ unused. (let f : ⊥ = cc in absurd f))
      (λ t p log w n h early kept promised s share a' b' m.
      let o = opens.world log n w h kept promised in
      boot_broke log w n name clock has_parts d0 h t p early o.ready o.wakes v down.told cause d passes calls (used s) (shares_used s w share) a' b' o.free o.restarting (down.done (acted Boots (powered o.wakes.outturn d0.stops n)) o.restarting (o.wakes.woken.clock ∙ h.clock)) (rose h.counts)
      (subst (λ (ls : List Line). Emits a' ls b') (append_assoc (last_lines_of home ++ undone) (line.Down name cause ∷ []) (line.Broken cause ∷ []) ∙ append_assoc (last_lines_of home) undone (line.Down name cause ∷ line.Broken cause ∷ [])) m))
