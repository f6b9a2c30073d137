-- As long as no node may be in use, each is as before a first line, over what its disk has.
use Rattle.std.specs.Prelude.{◌||◌, ◌&&◌, ◌+◌, not, nat_le, nat_lt, replicate, slice_index_or}
use Rattle.std.proofs.Common.{◌≡◌, ◌≤◌, ℕ, zero, suc, Bool, true, false, List, [], ◌∷◌, Option, Some, None, ◌⊎◌, inl, inr, length, take, refl, ap, sym, subst, ◌∙◌, arith}
use Rattle.std.proofs.lemmas.Bool.{both_ways, leb-true}
use Rattle.vms_model.specs.Limits.{lock_limit}
use Rattle.transcript_model.specs.Lines as line
use Rattle.transcript_model.specs.Lines.{Line, Cause}
use Rattle.script_model.specs.Statements as said
use Rattle.script_model.specs.Statements.{At, Bad, Blank, Boot, Clock, Deliver, Fuse, Init, LinkDown, Reading, Request, Says, Settle, Statement}
use Rattle.script_model.specs.Grammar.{reading}
use Rattle.commit_protocol.specs.Messages.{LogRecord, Name}
use Rattle.commit_protocol.proofs.Lists.{cases_name}
use Rattle.world_laws.specs.log_laws.Slots.{prepared_of}
use Rattle.world_laws.specs.run_model.Locks.{Lock}
use Rattle.world_laws.specs.run_model.World as world
use Rattle.world_laws.specs.run_model.World.{DiskCounts, Durable, File, IsOpening, LastIsReached, Node, Outturn, Settlement, Shared, Unknown, World, find_node, made_volume, opened, powered, prepared_left, relocked, relocked_by, with_node}
use Rattle.world_laws.specs.run_model.Operations.{first_of, refused_if}
use Rattle.world_laws.specs.run_model.Answers as answers
use Rattle.world_laws.specs.run_model.Answers.{Hears, LosesLink, Restarts, RunsDown, Serves, Service, Takes, Task, Ticks, occupies, refused_before_reading, task_service}
use Rattle.world_laws.specs.run_model.Steps as steps
use Rattle.world_laws.specs.run_model.Steps.{Choice, Cut, ServiceAllowed, TaskAllowed, TaskEffect, Unpowered, Whole, WithoutMemory, ready_node, service_effect, shared_after_rows, shared_then, task_effect}
use Rattle.world_laws.specs.run_model.Statements.{Allowed, Begins, Part, PartEffect, Phases, Step, begun_with, ended_by, no_node, nothing_done, part_effect, phases_of, put_into, refused_at_once, stops_at, RoseAt}
use Rattle.world_laws.specs.run_model.Transcript.{AreOpening, Entry, Legal, Turn}
use Rattle.commit_protocol.specs.Table.{coordinator_of}
use Rattle.world_laws.proofs.run_model.PartLemmas.{Doubted, Done, Idle, Missing, Way, phases_fold, way}
use Rattle.run_laws.proofs.run_agreement.Bases.{used_part}
use Rattle.run_laws.proofs.run_agreement.Barred.{quiet_powered}
use Rattle.run_laws.proofs.run_agreement.Begun.{AnyPart, any_phases}
use Rattle.run_laws.proofs.run_agreement.Found.{found_put, found_there, name_found, some_is}
use Rattle.run_laws.proofs.run_agreement.Serving.{first_none, not_false, parts_true, refused_none}
use Rattle.run_laws.proofs.run_agreement.Tasks.{IsBoot, awake_refused, boot_is, none_some, nothing_cut, ready_is, restart_is}
use Rattle.world_laws.proofs.EffectLemmas.{made_log, none_in}
use Rattle.world_laws.proofs.Induction.{acts_name}
use Rattle.world_laws.proofs.WorldLemmas.{each_opening}
use Rattle.dtm_run.specs.Leading.{as_first}

-- it is down, nothing is under way, and so it may stand before a first line
pub record IsFresh (n : Node) : Type 0 where
  pub down : n.up ≡ false
  pub quiet : n.under_way ≡ None
  pub first : IsOpening (as_first n)

pub opening_fresh : (n : Node) → IsOpening n → IsFresh n
opening_fresh n o = record {
  down = o.down;
  quiet = o.under_way;
  first = record {
    down = refl;
    made = refl;
    was_down = refl;
    clock = refl;
    volatile = refl;
    settled = refl;
    calls = refl;
    under_way = refl;
    resting = o.resting;
    last = last_of n.durable.last o.last;
    units = record { tells = o.units.tells; marked = λ up. let none : ⊥ = cc in absurd none; reached = o.units.reached; names = o.units.names };
    log = record { distinct = o.log.distinct; reached = o.log.reached; prepared_within = o.log.prepared_within; committed_within = o.log.committed_within; prepared = o.log.prepared; active = o.log.active; transactions = o.log.transactions; unsettled = o.log.unsettled; few = o.log.few; slots = o.log.slots };
    ends = o.ends;
    images = o.images;
    named = o.named;
    few_locks = o.few_locks;
  };
}
  where
    last_of : (s : Option Settlement) → LastIsReached n s → LastIsReached (as_first n) s
    last_of None h = tt
    last_of (Some s) h = h

-- A disk of which nothing is known.

abbrev unknown : Durable → Durable
unknown d = record d { volume = Unknown }

same_locks : (rs : List LogRecord) (d : Durable) (ls : List Lock) → relocked rs (unknown d) ls ≡ relocked rs d ls
same_locks [] d ls = refl
same_locks (r ∷ rs) d ls = same_locks rs d (relocked_by r.serial d.directory d.units.entries ls)

unknown_first : (n : Node) → IsOpening (as_first n) → IsOpening (as_first (record n { durable = unknown n.durable }))
unknown_first n o = record {
  down = refl;
  made = refl;
  was_down = refl;
  clock = refl;
  volatile = refl;
  settled = refl;
  calls = refl;
  under_way = refl;
  resting = o.resting;
  last = last_of n.durable.last o.last;
  units = record { tells = o.units.tells; marked = λ up. let none : ⊥ = cc in absurd none; reached = o.units.reached; names = o.units.names };
  log = record { distinct = o.log.distinct; reached = o.log.reached; prepared_within = o.log.prepared_within; committed_within = o.log.committed_within; prepared = o.log.prepared; active = o.log.active; transactions = o.log.transactions; unsettled = o.log.unsettled; few = o.log.few; slots = o.log.slots };
  ends = o.ends;
  images = o.images;
  named = o.named;
  few_locks = subst (λ (ls : List Lock). length ls ≤ 4096) (sym (same_locks (prepared_left n.durable) n.durable [])) o.few_locks;
}
  where
    last_of : (s : Option Settlement) → LastIsReached (as_first n) s → LastIsReached (as_first (record n { durable = unknown n.durable })) s
    last_of None h = tt
    last_of (Some s) h = h

-- A new volume.

no_file : (k place : ℕ) (f : File) → ◌≡◌ {A = Option File} (slice_index_or (replicate k None) place None) (Some f) → ⊥
no_file zero place f e = let none : ⊥ = cc in none
no_file (suc k) zero f e = let none : ⊥ = cc in none
no_file (suc k) (suc place) f e = no_file k place f e

made_first : (n : Node) (slots journal : ℕ) → slots ≤ 512 → IsOpening (as_first (world.acted (world.Formats slots journal) n))
made_first n slots journal few =
    let log = made_log (as_first n) slots journal few in
    record {
      down = refl;
      made = refl;
      was_down = refl;
      clock = refl;
      volatile = refl;
      settled = refl;
      calls = refl;
      under_way = refl;
      resting = tt;
      last = tt;
      units = record { tells = λ place f there. absurd (no_file 64 place f there); marked = λ up. let none : ⊥ = cc in absurd none; reached = tt; names = λ p q f g there other same. absurd (no_file 64 p f there) };
      log = record { distinct = log.distinct; reached = log.reached; prepared_within = log.prepared_within; committed_within = log.committed_within; prepared = log.prepared; active = log.active; transactions = log.transactions; unsettled = log.unsettled; few = log.few; slots = log.slots };
      ends = tt;
      images = tt;
      named = λ file none. refl;
      few_locks = subst (λ rs. length (relocked (prepared_of rs) (made_volume slots journal) []) ≤ lock_limit) (sym (none_in slots)) (omega arith);
    }

-- Tasks.

-- a node may be in use, or this one is so still
abbrev Stays : TaskEffect → Type 0
Stays f = (f.shared.in_use ≡ true) ⊎ IsFresh f.node

or_right : (a b : Bool) → b ≡ true → (a || b) ≡ true
or_right true b e = refl
or_right false b e = e

module _ (n : Node) (s : Shared) (stops : ℕ) (rises : Cause → Type 0) (h : IsFresh n) where
  pub down_refused : (e : Service) → e.while_down ≡ false → refused_before_reading s n e ≡ Some line.NodeDown
  down_refused e off = ap (λ b. first_of (refused_if (not (b || e.while_down)) line.NodeDown) (e.refused_before_reading s n)) h.down ∙ ap (λ b. first_of (refused_if (not (false || b)) line.NodeDown) (e.refused_before_reading s n)) off

  plain_stays : (e : Service) → e.while_down ≡ false → (c : Choice) → ServiceAllowed s stops n e rises c → Stays (service_effect s stops n e c)
  plain_stays e off (Whole o) may = subst (λ (l : Option Line). Stays (steps.whole s n (ready_node o stops e n) e l)) (sym (down_refused e off)) (inr h)
  plain_stays e off WithoutMemory may = inr h
  plain_stays e off Unpowered may = absurd (none_some line.NodeDown (refused_before_reading s n e) (down_refused e off) may.0)
  plain_stays e off (Cut o done begun cause) may = absurd (none_some line.NodeDown (refused_before_reading s n e) (down_refused e off) may.0)

  fuse_stays : (writes choice : ℕ) (c : Choice) → ServiceAllowed s stops n (answers.service (Fuse writes choice)) rises c → Stays (service_effect s stops n (answers.service (Fuse writes choice)) c)
  fuse_stays writes choice (Whole o) may =
      let e : Service = answers.service (Fuse writes choice) in
      subst (λ (l : Option Line). Stays (steps.whole s n n e l)) (sym (awake_refused s n e refl)) (inr (record { down = h.down; quiet = h.quiet; first = h.first }))
  fuse_stays writes choice WithoutMemory may = inr h
  fuse_stays writes choice Unpowered may = absurd (let f : false ≡ true = may.1 in cc)
  fuse_stays writes choice (Cut o done begun cause) may = absurd (let f : false ≡ true = may.1 in cc)

  clock_stays : (now : ℕ) (c : Choice) → ServiceAllowed s stops n (answers.service (Clock now)) rises c → Stays (service_effect s stops n (answers.service (Clock now)) c)
  clock_stays now (Whole o) may =
      let e : Service = answers.service (Clock now) in
      subst (λ (l : Option Line). Stays (steps.whole s n n e l)) (sym (awake_refused s n e refl)) (inr (record { down = h.down; quiet = h.quiet; first = h.first }))
  clock_stays now WithoutMemory may = inr h
  clock_stays now Unpowered may = absurd (let f : false ≡ true = may.1 in cc)
  clock_stays now (Cut o done begun cause) may = absurd (let f : false ≡ true = may.1 in cc)

  boot_stays : (e : Service) → IsBoot e → occupies e ≡ true → (c : Choice) → ServiceAllowed s stops n e rises c → Stays (service_effect s stops n e c)
  boot_stays e boot used (Whole o) may = by (refused_before_reading s n e)
    where
      begins : (l : Option Line) → Stays (steps.begun s (ready_node o stops e n) e l)
      begins (Some l) = inr (subst IsFresh (sym (ready_is o stops e n boot ∙ quiet_powered o stops n h.quiet)) (record { down = h.down; quiet = refl; first = h.first }))
      begins None = inl (or_right (shared_then e.closing (shared_after_rows (e.rows s (ready_node o stops e n)) s)).in_use (occupies e) used)

      by : (l : Option Line) → Stays (steps.whole s n (ready_node o stops e n) e l)
      by (Some l) = inr h
      by None = begins (e.refused_after_reading s (ready_node o stops e n))
  boot_stays e boot used WithoutMemory may = inr h
  boot_stays e boot used Unpowered may = inl (or_right s.in_use (occupies e) used)
  boot_stays e boot used (Cut o done begun cause) may =
      let y = ready_node o stops e n in
      inl (or_right (shared_after_rows (take done (steps.rows_to_cut s y e)) s).in_use (occupies e) used)

  few_slots : (slots journal : ℕ) → refused_before_reading s n (answers.service (Init slots journal)) ≡ None → slots ≤ 512
  few_slots slots journal e =
      let refusals = first_none (refused_if s.in_use line.VolumeInUse) _ (sym (awake_refused s n (answers.service (Init slots journal)) refl) ∙ e) in
      let fits = not_false (answers.is_volume_form slots journal n) (refused_none (not (answers.is_volume_form slots journal n)) line.BadParameter refusals.1) in
      let sizes = parts_true (answers.is_within 64 512 slots && answers.is_within 64 8192 journal) (nat_lt (584 + slots + journal) n.blocks) fits in
      let within = parts_true (answers.is_within 64 512 slots) (answers.is_within 64 8192 journal) sizes.0 in
      leb-true slots 512 (parts_true (nat_le 64 slots) (nat_le slots 512) within.0).1

  -- the disk runs again for an INIT
  spoilt_fresh : (o : Outturn) → IsFresh (steps.with_unknown_volume true (powered o stops n))
  spoilt_fresh o = subst (λ (z : Node). IsFresh (steps.with_unknown_volume true z)) (sym (quiet_powered o stops n h.quiet)) (record { down = h.down; quiet = refl; first = unknown_first n h.first })

  init_stays : (slots journal : ℕ) (c : Choice) → ServiceAllowed s stops n (answers.service (Init slots journal)) rises c → Stays (service_effect s stops n (answers.service (Init slots journal)) c)
  init_stays slots journal (Whole o) may = by (refused_before_reading s n (answers.service (Init slots journal))) refl
    where
      by : (l : Option Line) → refused_before_reading s n (answers.service (Init slots journal)) ≡ l → Stays (steps.whole s n (steps.with_unknown_volume true (powered o stops n)) (answers.service (Init slots journal)) l)
      by (Some l) e = inr h
      by None e = let y = spoilt_fresh o in inr (record { down = y.down; quiet = y.quiet; first = made_first (steps.with_unknown_volume true (powered o stops n)) slots journal (few_slots slots journal e) })
  init_stays slots journal WithoutMemory may = inr h
  init_stays slots journal Unpowered may = inr (record { down = refl; quiet = h.quiet; first = unknown_first n h.first })
  init_stays slots journal (Cut o done begun cause) may =
      let y = spoilt_fresh o in
      inr (subst IsFresh (sym (nothing_cut done begun (steps.with_unknown_volume true (powered o stops n)))) (record { down = refl; quiet = refl; first = y.first }))

abbrev TaskStays : Task → Type 1
TaskStays t = (n : Node) (s : Shared) (stops : ℕ) (rises : Cause → Type 0) → IsFresh n → (c : Choice) → TaskAllowed s stops n t rises c → Stays (task_effect s stops n t c)

plain_task : (t : Task) → (task_service t).while_down ≡ false → TaskStays t
plain_task t off n s stops rises h c may = plain_stays n s stops rises h (task_service t) off c may

request_stays : (r : Request) → TaskStays (Serves r)
request_stays (Init slots journal) = λ n s stops rises h c may. init_stays n s stops rises h slots journal c may
request_stays Boot = λ n s stops rises h c may. boot_stays n s stops rises h (answers.service Boot) boot_is refl c may
request_stays (Fuse writes choice) = λ n s stops rises h c may. fuse_stays n s stops rises h writes choice c may
request_stays (Clock now) = λ n s stops rises h c may. clock_stays n s stops rises h now c may
request_stays (said.Create file bucket size form) = plain_task (Serves (said.Create file bucket size form)) refl
request_stays (said.SetFile file setting) = plain_task (Serves (said.SetFile file setting)) refl
request_stays (said.StartTrans label seconds) = plain_task (Serves (said.StartTrans label seconds)) refl
request_stays (said.AddBranch label other new) = plain_task (Serves (said.AddBranch label other new)) refl
request_stays (said.StartBranch label) = plain_task (Serves (said.StartBranch label)) refl
request_stays (said.Records label file op) = plain_task (Serves (said.Records label file op)) refl
request_stays (said.Direct file op) = plain_task (Serves (said.Direct file op)) refl
request_stays (said.EndBranch label) = plain_task (Serves (said.EndBranch label)) refl
request_stays (said.EndTrans label) = plain_task (Serves (said.EndTrans label)) refl
request_stays (said.AbortTrans label) = plain_task (Serves (said.AbortTrans label)) refl
request_stays (said.Inquire who) = plain_task (Serves (said.Inquire who)) refl
request_stays (said.DeclareRm rm) = plain_task (Serves (said.DeclareRm rm)) refl
request_stays (said.JoinRm label rm) = plain_task (Serves (said.JoinRm label rm)) refl
request_stays (said.AckEvent who rm reply) = plain_task (Serves (said.AckEvent who rm reply)) refl
request_stays (said.ForgetRm rm) = plain_task (Serves (said.ForgetRm rm)) refl
request_stays (said.GetDti who) = plain_task (Serves (said.GetDti who)) refl
request_stays said.LmcpShow = plain_task (Serves said.LmcpShow) refl
request_stays said.LmcpDump = plain_task (Serves said.LmcpDump) refl
request_stays (said.Dump file) = plain_task (Serves (said.Dump file)) refl
request_stays said.DumpJournal = plain_task (Serves said.DumpJournal) refl
request_stays (said.DumpImages file side) = plain_task (Serves (said.DumpImages file side)) refl
request_stays (said.Backup file) = plain_task (Serves (said.Backup file)) refl
request_stays (said.Recover file way) = plain_task (Serves (said.Recover file way)) refl
request_stays said.Crash = plain_task (Serves said.Crash) refl

task_stays : (t : Task) → TaskStays t
task_stays (Serves r) = request_stays r
task_stays Ticks = plain_task Ticks refl
task_stays (Takes m) = plain_task (Takes m) refl
task_stays (Hears m) = plain_task (Hears m) refl
task_stays (LosesLink other) = plain_task (LosesLink other) refl
task_stays RunsDown = plain_task RunsDown refl
task_stays Restarts = λ n s stops rises h c may. boot_stays n s stops rises h (task_service Restarts) restart_is refl c may

-- Worlds.

-- a node may be in use, or each is so
abbrev AllFresh : World → Type 0
AllFresh w = (w.shared.in_use ≡ true) ⊎ ((node : Name) (n : Node) → find_node node w.nodes ≡ Some n → IsFresh n)

put_fresh : (w : World) (node : Name) (n : Node) (f : TaskEffect) → find_node node w.nodes ≡ Some n → f.node.name ≡ n.name → IsFresh f.node → ((other : Name) (m : Node) → find_node other w.nodes ≡ Some m → IsFresh m) → AllFresh (put_into w node f).world
put_fresh w node n f found named fresh all = inr (λ other m is. elim (cases_name other node) [
  | inl same ↦
      let there : find_node node (with_node node (λ k. f.node) w.nodes) ≡ Some m = subst (λ (x : Name). find_node x (with_node node (λ k. f.node) w.nodes) ≡ Some m) same is in
      subst IsFresh (some_is f.node m (sym (found_put node f.node n w.nodes own found) ∙ there)) fresh
  | inr away ↦ all other m (sym (found_there other node f.node w.nodes own away) ∙ is)
])
  where
    own : f.node.name ≡ node
    own = named ∙ name_found node w.nodes n found

part_fresh : (after : List DiskCounts) (w : World) (p : Part) (c : Choice) → Allowed w p after c → AllFresh w → AllFresh (part_effect w p c).world
part_fresh after w p c may (inl used) = inl (used_part w p c used)
part_fresh after w p c may (inr all) = by (way w p c after may)
  where
    to : (e : PartEffect) → part_effect w p c ≡ e → AllFresh e.world → AllFresh (part_effect w p c).world
    to e is h = subst (λ (f : PartEffect). AllFresh f.world) (sym is) h

    by : Way w p c after → AllFresh (part_effect w p c).world
    by (Done node t n found allowed is) =
        let f = task_effect w.shared (stops_at node w) n t c in
        to (put_into w node f) is (elim (task_stays t n w.shared (stops_at node w) (λ cause. RoseAt w node cause after) (all node n found) c allowed) [
          | inl used ↦ inl used
          | inr fresh ↦ put_fresh w node n f found (acts_name w.shared (stops_at node w) n t c) fresh all
        ])
    by (Missing node none is) = to (no_node w) is (inr all)
    by (Idle is) = to (nothing_done w) is (inr all)
    by (Doubted node serial b asks none is) = to (ended_by w (line.InDoubt b.key.serial (coordinator_of b.key))) is (inr all)

begun_fresh : (s : Statement) (w : World) → AllFresh w → AllFresh (begun_with s w)
begun_fresh Settle w h = inl refl
begun_fresh (At node request) w h = h
begun_fresh (Deliver number) w h = h
begun_fresh (LinkDown a b) w h = h

step_fresh : (w v : World) (s : Statement) (lines : List Line) → Step w s lines v → AllFresh w → AllFresh v
step_fresh w v s lines step h = subst AllFresh (sym step.goes) (by (refused_at_once w s) step.does)
  where
    by : (o : Option Line) → Begins o (Phases (phases_of s) v.disks (begun_with s w) line.Normal) w step.events step.answer step.world → AllFresh step.world
    by (Some l) d = subst AllFresh (sym d.2) h
    by None d = phases_fold v.disks AnyPart (λ given. Unit {0}) (λ u ls a x. AllFresh u → AllFresh x) (λ u given q k. k)
        (λ u p c ok allowed ends k. part_fresh v.disks u p c allowed k)
        (λ u p c ok allowed on. (tt, λ rest a x more k. more (part_fresh v.disks u p c allowed k)))
        (phases_of s) (any_phases (phases_of s)) (begun_with s w) line.Normal step.events step.answer step.world tt d (begun_fresh s w h)

turn_fresh : (w v : World) (r : Reading) (lines : List Line) → Turn w r lines v → AllFresh w → AllFresh v
turn_fresh w v Blank lines turn h = subst AllFresh (sym turn.1) h
turn_fresh w v (Says s) lines step h = step_fresh w v s lines step h
turn_fresh w v (Bad column) lines turn h = absurd turn

legal_fresh : (nodes : List Node) (disks : List DiskCounts) (es : List Entry) (w : World) → AreOpening nodes → Legal (opened nodes disks) es w → AllFresh w
legal_fresh nodes disks [] w are legal = subst AllFresh (sym legal) (inr (λ node n found. opening_fresh n (each_opening nodes are node n found)))
legal_fresh nodes disks (e ∷ es) w are legal = turn_fresh legal.0 w (reading e.source.text) e.lines legal.2 (legal_fresh nodes disks es legal.0 are legal.1)

pub unused_fresh : (nodes : List Node) (disks : List DiskCounts) (es : List Entry) (w : World) → AreOpening nodes → Legal (opened nodes disks) es w → w.shared.in_use ≡ false → (node : Name) (n : Node) → find_node node w.nodes ≡ Some n → IsFresh n
unused_fresh nodes disks es w are legal off = go (legal_fresh nodes disks es w are legal)
  where
    go : AllFresh w → (node : Name) (n : Node) → find_node node w.nodes ≡ Some n → IsFresh n
    go (inl used) = absurd (both_ways w.shared.in_use off used)
    go (inr all) = all
