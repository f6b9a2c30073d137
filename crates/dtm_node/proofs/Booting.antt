-- A boot, from what its steps do to the node of the world.
use Rattle.std.proofs.Common.{◌≡◌, ◌⊎◌, inl, inr, ℕ, suc, List, [], ◌∷◌, ◌++◌, Bool, true, false, Option, Some, None, length, map, take, drop, refl, sym, ap, subst, ◌∙◌, append_assoc, arith}
use Rattle.block_disk.specs.Disk.{DiskState, CallLog, noted}
use Rattle.block_disk.specs.declared.disk.DiskCall.TheVariants as disk_call
use Rattle.volume.specs.State.{VolumeState}
use Rattle.emitter_model.specs.transcript_model.Outside.{Rose}
use Rattle.emitter_model.specs.transcript_model.Lines as line
use Rattle.emitter_model.specs.transcript_model.Lines.{Line, Cause, Failed}
use Rattle.emitter_model.specs.Emitting.{Shown, Emits}
use Rattle.unit_laws.specs.Journal.{RecoveryUnit}
use Rattle.world_laws.specs.run_model.World.{Shared, Node, Act, Settlement, Power, Boots, ComesUp, acted, fallen, powered, unpowered}
use Rattle.world_laws.specs.run_model.Answers.{Row, Task, boot_rows, bootable, last_line, last_lines, left_active, refused_before_reading, task_service}
use Rattle.world_laws.specs.run_model.Steps.{NodeStep, act_begun, count_of, lines_of_rows, node_after_rows, rows_if, shared_after_rows}
use Rattle.recovery_units.specs.volume_model.Volumes.{HasDisk}
use Rattle.recovery_units.specs.Calls.{BreaksAfter, IsRestarting, after_undone, settlements_of, told_in, undone_next}
use Rattle.recovery_units.specs.Told.{ReopenedTold}
use Rattle.recovery_units.specs.declared.settled.SettledUnit.{SettledUnit}
use Rattle.run_shared.specs.Sharing.{IsShared, SharedState}
use Rattle.node_requests.specs.node_table.Standing.{Up, UpRepresents}
use Rattle.dtm_node.specs.Boots.{IsAwake}
use Rattle.node_requests.specs.node_standing.Keeping.{Performs}
use Rattle.dtm_node.specs.Nodes.{last_lines_of, undone_line}
use Rattle.dtm_node.specs.Opening.{Wakes, kept_down}
use Rattle.node_requests.specs.node_standing.Standing.{RepresentsNode, counts_of, disk_of, noted_all}
use Rattle.node_requests.specs.node_standing.Telling.{DiskAdvancesOverCalls}
use Rattle.dtm_node.proofs.BootSteps.{IsBoot, in_use, step_barred, step_fell, step_lacking, step_risen, step_unpowered}
use Rattle.dtm_node.proofs.DiskLemmas.{disk_kept}
use Rattle.dtm_node.proofs.Performing.{kept_fallen, kept_up}
use Rattle.dtm_node.proofs.Restarting.{all_rows, told_few, undone_begun, undone_count, undone_nodes, undone_rows, undone_same, undone_shared, undone_shown}

module _ (log : CallLog) (s : Shared) (n : Node) (name : List ℕ) (clock : ℕ) (has_parts : Bool) (d0 : DiskState) (h : RepresentsNode log (kept_down name clock has_parts d0) n) (t : Task) (p : IsBoot t) (early : refused_before_reading s n (task_service t) ≡ None) where
  -- memory is missing
  pub boot_lacks : (a b : Shown) (after : SharedState) → has_parts ≡ false → IsShared after s → Emits a (line.NoMemory ∷ []) b → Performs log s n (counts_of d0) t true true a b (kept_down name clock has_parts d0) after
  boot_lacks a b after none share shows = record {
    lines = [];
    answer = line.NoMemory;
    node = n;
    shared = s;
    step = step_lacking s n t (counts_of d0) (counts_of d0) (omega arith) (omega arith) p early (never n.was_up refl);
    emits = shows;
    alike = share;
    stands = h;
  }
    where
      never : (b : Bool) → n.was_up ≡ b → n.was_up ≡ false
      never false e = e
      never true e = absurd (let q : true ≡ false = sym (h.place.reserved e) ∙ none in (let f : ⊥ = cc in f))

  module _ (after : SharedState) (share : IsShared after (in_use s)) (d : DiskState) (passes : DiskAdvancesOverCalls d0 d) (calls : d.calls ≡ noted (disk_call.Power d0.stops) d0.calls) where
    -- the disk does not run again
    pub boot_unpowered : (a b : Shown) → d.pending ≡ d0.pending → d.seen ≡ d0.seen → Rose (count_of Failed (counts_of d0)) (count_of Failed (counts_of d)) → Emits a (line.Down name Failed ∷ line.Broken Failed ∷ []) b → Performs log s n (counts_of d0) t true true a b (kept_fallen name clock d) after
    boot_unpowered a b pending seen rose m = record {
      lines = line.Down name Failed ∷ [];
      answer = line.Broken Failed;
      node = unpowered d0.stops n;
      shared = in_use s;
      step = subst (λ x. NodeStep s n (counts_of d0) t (line.Down x Failed ∷ []) (line.Broken Failed) true (unpowered d0.stops n) (in_use s) (counts_of d)) h.name
          (step_unpowered s n t (counts_of d0) (counts_of d) (passes.faults h.counts) (passes.stops h.counts) p early rose);
      emits = m;
      alike = share;
      stands = record {
        name = h.name;
        blocks = h.blocks ∙ sym passes.size;
        clock = h.clock;
        unmade = h.unmade;
        place = record { down = refl; reserved = λ was. refl; told = passes.told ∙ h.place.told; disk = disk_kept n false (Power d0.stops ∷ n.calls) d0 d (λ e. let none : ⊥ = cc in absurd none) pending seen h.place.disk };
        calls = calls ∙ ap (noted (disk_call.Power d0.stops)) h.calls;
        counts = passes.counted h.counts;
      };
    }

  module _ (d1 : DiskState) (x : Wakes n d0 d1) where
    abbrev pub woken : Node
    woken = powered x.outturn d0.stops n

    pub awake_here : IsAwake name d1 woken
    awake_here = subst (λ y. IsAwake y d1 woken) h.name x.awake

    woken_down : woken.up ≡ false
    woken_down = x.woken.up ∙ h.place.down

    module _ (d : DiskState) (passes : DiskAdvancesOverCalls d0 d) (calls : d.calls ≡ noted (disk_call.Power d0.stops) d0.calls) where
      -- a node that is down, as the one that woke but for its disk and its table
      down_stands : (m : Node) → m.name ≡ woken.name → m.blocks ≡ woken.blocks → m.clock ≡ woken.clock → m.unmade ≡ woken.unmade → m.calls ≡ woken.calls → m.up ≡ false → HasDisk m d → RepresentsNode log (kept_fallen name clock d) m
      down_stands m named blocks clocked made called down has = record {
        name = named ∙ x.woken.name ∙ h.name;
        blocks = blocks ∙ x.woken.blocks ∙ h.blocks ∙ sym passes.size;
        clock = clocked ∙ x.woken.clock ∙ h.clock;
        unmade = made ∙ x.woken.unmade ∙ h.unmade;
        place = record { down = down; reserved = λ was. refl; told = passes.told ∙ h.place.told; disk = has };
        calls = calls ∙ ap (noted (disk_call.Power d0.stops)) h.calls ∙ ap (λ cs. noted_all cs log) (sym (called ∙ x.woken.calls));
        counts = passes.counted h.counts;
      }

      pub boot_refused : (after : SharedState) (refusal : Line) (a b : Shown) → IsShared after s → bootable woken ≡ Some refusal → HasDisk woken d → Emits a (refusal ∷ []) b → Performs log s n (counts_of d0) t true true a b (kept_fallen name clock d) after
      boot_refused after refusal a b share refuses has m = record {
        lines = [];
        answer = refusal;
        node = woken;
        shared = s;
        step = step_barred s n t (counts_of d0) (counts_of d) (passes.faults h.counts) (passes.stops h.counts) p early x.outturn x.may refusal refuses;
        emits = m;
        alike = share;
        stands = down_stands woken refl refl refl refl refl woken_down has;
      }

      module _ (after : SharedState) (share : IsShared after (in_use s)) (cause : Cause) (rose : Rose (count_of cause (counts_of d0)) (count_of cause (counts_of d))) (a b : Shown) where
        fell_with : (rs : List Row) (begun : Bool) (under : Option Act) → rows_if (bootable woken) (boot_rows s woken) ≡ rs → act_begun begun rs ≡ under → HasDisk (fallen under woken) d → Emits a (line.Down name cause ∷ line.Broken cause ∷ []) b → Performs log s n (counts_of d0) t true true a b (kept_fallen name clock d) after
        fell_with rs begun under are is has m = record {
          lines = line.Down name cause ∷ [];
          answer = line.Broken cause;
          node = fallen under woken;
          shared = in_use s;
          step = subst (λ y. NodeStep s n (counts_of d0) t (line.Down y cause ∷ []) (line.Broken cause) true (fallen under woken) (in_use s) (counts_of d)) (x.woken.name ∙ h.name)
              (subst (λ o. NodeStep s n (counts_of d0) t (line.Down woken.name cause ∷ []) (line.Broken cause) true (fallen o woken) (in_use s) (counts_of d)) is
              (step_fell s n t (counts_of d0) (counts_of d) (passes.faults h.counts) (passes.stops h.counts) p early x.outturn x.may rs 0 begun cause are (omega arith) rose));
          emits = m;
          alike = share;
          stands = down_stands (fallen under woken) refl refl refl refl refl refl has;
        }

        pub boot_fell : HasDisk (fallen None woken) d ⊎ ((bootable woken ≡ None) × HasDisk (fallen (Some Boots) woken) d) → Emits a (line.Down name cause ∷ line.Broken cause ∷ []) b → Performs log s n (counts_of d0) t true true a b (kept_fallen name clock d) after
        boot_fell (inl has) m = fell_with (rows_if (bootable woken) (boot_rows s woken)) false None refl refl has m
        boot_fell (inr begun) m = fell_with (boot_rows s woken) true (Some Boots) (ap (λ o. rows_if o (boot_rows s woken)) begun.0) refl begun.1 m

    -- The boot count is raised: what a fall left is undone.

    abbrev pub raised : Node
    raised = acted Boots woken

    abbrev pub units : List RecoveryUnit
    units = left_active woken

    abbrev pub undone : ℕ → Node
    undone k = after_undone k raised units

    -- what is shown after so many rows behind the first
    abbrev pub shown_so : List SettledUnit → List Line
    shown_so told = last_lines woken ++ map undone_line told

    pub last_is : (v : VolumeState) → IsRestarting v raised → last_lines woken ≡ last_lines_of v.catalog.home
    last_is v r = ap (λ (o : Option Settlement). elim o [ Some y ↦ last_line y | None ↦ [] ]) r.leaves.home.last

    emits_behind : (v : VolumeState) (a b : Shown) (told : List SettledUnit) (ls : List Line) → IsRestarting v raised → Emits a (last_lines_of v.catalog.home ++ (map undone_line told ++ ls)) b → Emits a (shown_so told ++ ls) b
    emits_behind v a b told ls r m =
        subst (λ ks. Emits a ks b) (sym (append_assoc (last_lines woken) (map undone_line told) ls))
        (subst (λ (ks : List Line). Emits a (ks ++ (map undone_line told ++ ls)) b) (sym (last_is v r)) m)

    -- the disk went down in it
    pub boot_broke : (v : VolumeState) (told : ReopenedTold) (cause : Cause) (d : DiskState) (passes : DiskAdvancesOverCalls d0 d) (calls : d.calls ≡ noted (disk_call.Power d0.stops) d0.calls) (after : SharedState) → IsShared after (in_use s) → (a b : Shown) → bootable woken ≡ None → IsRestarting v raised → BreaksAfter told raised d
        → Rose (count_of cause (counts_of d0)) (count_of cause (counts_of d)) → Emits a (last_lines_of v.catalog.home ++ (map undone_line told.settled ++ line.Down name cause ∷ line.Broken cause ∷ [])) b → Performs log s n (counts_of d0) t true true a b (kept_fallen name clock d) after
    boot_broke v told cause d passes calls after share a b free r broke rose m =
        let k = length told.settled in
        let rows = undone_rows s raised units in
        let few = told_few k raised units told.settled broke.settled in
        let counted = undone_count s raised units in
        let end = fallen (undone_next k raised units) (undone k) in
        let same = (undone_same k raised units).same in
        record {
          lines = shown_so told.settled ++ line.Down name cause ∷ [];
          answer = line.Broken cause;
          node = end;
          shared = in_use s;
          step = subst (λ y. NodeStep s n (counts_of d0) t (shown_so told.settled ++ line.Down y cause ∷ []) (line.Broken cause) true end (in_use s) (counts_of d)) (x.woken.name ∙ h.name)
              (subst (λ (ls : List Line). NodeStep s n (counts_of d0) t ((last_lines woken ++ ls) ++ line.Down woken.name cause ∷ []) (line.Broken cause) true end (in_use s) (counts_of d)) (undone_shown k s raised units told.settled broke.settled)
              (subst (λ (o : Option Act). NodeStep s n (counts_of d0) t ((last_lines woken ++ lines_of_rows (take k rows)) ++ line.Down woken.name cause ∷ []) (line.Broken cause) true (fallen o (undone k)) (in_use s) (counts_of d)) (undone_begun k s raised units)
              (subst (λ (y : Node). NodeStep s n (counts_of d0) t ((last_lines woken ++ lines_of_rows (take k rows)) ++ line.Down woken.name cause ∷ []) (line.Broken cause) true (fallen (act_begun true (drop k rows)) y) (in_use s) (counts_of d)) (undone_nodes k s raised units)
              (subst (λ (y : Shared). NodeStep s n (counts_of d0) t ((last_lines woken ++ lines_of_rows (take k rows)) ++ line.Down woken.name cause ∷ []) (line.Broken cause) true (fallen (act_begun true (drop k rows)) (node_after_rows (take k rows) raised)) (in_use y) (counts_of d)) (undone_shared k s raised units)
              (step_fell s n t (counts_of d0) (counts_of d) (passes.faults h.counts) (passes.stops h.counts) p early x.outturn x.may (boot_rows s woken) (suc k) true cause (ap (λ o. rows_if o (boot_rows s woken)) free) (omega (arith, few, counted)) rose)))));
          emits = subst (λ ls. Emits a ls b) (sym (append_assoc (shown_so told.settled) (line.Down name cause ∷ []) (line.Broken cause ∷ []))) (emits_behind v a b told.settled (line.Down name cause ∷ line.Broken cause ∷ []) r m);
          alike = share;
          stands = down_stands d passes calls end same.name same.blocks same.clock same.unmade same.calls refl broke.disk;
        }

    -- The node is up: a step with what the task shows then, and its answer.
    pub boot_risen : (told : ReopenedTold) (new : Up) (passes : DiskAdvancesOverCalls d0 (disk_of new)) → bootable woken ≡ None → told_in told.settled ≡ settlements_of (length units) raised units
        → NodeStep s n (counts_of d0) t (shown_so told.settled ++ (task_service t).closing_lines woken) ((task_service t).answer s woken) false (acted ComesUp (undone (length units))) (in_use s) (counts_of (disk_of new))
    boot_risen told new passes free settled =
        let k = length units in
        let d = disk_of new in
        let rows = undone_rows s raised units in
        let all = all_rows s raised units in
        let shows : lines_of_rows rows ≡ map undone_line told.settled = ap lines_of_rows (sym all) ∙ undone_shown k s raised units told.settled settled in
        let ends : node_after_rows rows raised ≡ undone k = ap (λ (rs : List Row). node_after_rows rs raised) (sym all) ∙ undone_nodes k s raised units in
        let keeps : shared_after_rows rows s ≡ s = ap (λ (rs : List Row). shared_after_rows rs s) (sym all) ∙ undone_shared k s raised units in
        subst (λ (ls : List Line). NodeStep s n (counts_of d0) t ((last_lines woken ++ ls) ++ (task_service t).closing_lines woken) ((task_service t).answer s woken) false (acted ComesUp (undone k)) (in_use s) (counts_of d)) shows
        (subst (λ (y : Node). NodeStep s n (counts_of d0) t ((last_lines woken ++ lines_of_rows rows) ++ (task_service t).closing_lines woken) ((task_service t).answer s woken) false (acted ComesUp y) (in_use s) (counts_of d)) ends
        (subst (λ (y : Shared). NodeStep s n (counts_of d0) t ((last_lines woken ++ lines_of_rows rows) ++ (task_service t).closing_lines woken) ((task_service t).answer s woken) false (acted ComesUp (node_after_rows rows raised)) (in_use y) (counts_of d)) keeps
        (step_risen s n t (counts_of d0) (counts_of d) (passes.faults h.counts) (passes.stops h.counts) p early x.outturn x.may free)))

    -- and what is kept of it stands for it
    pub risen_stands : (new : Up) (passes : DiskAdvancesOverCalls d0 (disk_of new)) → (disk_of new).calls ≡ noted (disk_call.Power d0.stops) d0.calls → UpRepresents clock new (acted ComesUp (undone (length units))) → RepresentsNode log (kept_up name clock new) (acted ComesUp (undone (length units)))
    risen_stands new passes calls up =
        let same = (undone_same (length units) raised units).same in
        record {
          name = same.name ∙ x.woken.name ∙ h.name;
          blocks = same.blocks ∙ x.woken.blocks ∙ h.blocks ∙ sym passes.size;
          clock = same.clock ∙ x.woken.clock ∙ h.clock;
          unmade = same.unmade ∙ x.woken.unmade ∙ h.unmade;
          place = up;
          calls = calls ∙ ap (noted (disk_call.Power d0.stops)) h.calls ∙ ap (λ cs. noted_all cs log) (sym (same.calls ∙ x.woken.calls));
          counts = passes.counted h.counts;
        }
