-- What is asked of a rack whose nodes are in no use: a node may be in use from then on, or none is.
use Rattle.std.specs.Prelude.{◌||◌, ◌&&◌, not, nat_le, nat_lt, replicate, length, ◌+◌}
use Rattle.std.specs.List.{AllByRecursion}
use Rattle.std.proofs.lemmas.List.{length-replicate}
use Rattle.std.proofs.Common.{◌≡◌, ◌≤◌, ℕ, zero, suc, take, Bool, true, false, List, [], ◌∷◌, Option, Some, None, ◌⊎◌, inl, inr, refl, ap, sym, subst, ◌∙◌, arith}
use Rattle.std.proofs.lemmas.Bool.{leb-true}
use Rattle.run_model.specs.transcript_model.Lines as line
use Rattle.run_model.specs.transcript_model.Lines.{Line, Cause}
use Rattle.run_model.specs.script_model.Statements as said
use Rattle.run_model.specs.script_model.Statements.{Statement, At, Deliver, LinkDown, Settle, Request, Init, Boot, Fuse, Clock, Reading, Blank, Says, Bad}
use Rattle.commit_protocol.specs.Messages.{Name, LogRecord}
use Rattle.commit_protocol.specs.World.{In}
use Rattle.commit_protocol.specs.Agreement.{Distinct}
use Rattle.run_model.specs.log_laws.Slots.{records_in, prepared_of, committed_of}
use Rattle.run_model.specs.unit_laws.Journal.{empty_journal, is_settled_in}
use Rattle.commit_protocol.specs.Table as table
use Rattle.commit_protocol.specs.Table.{record_serials}
use Rattle.run_model.specs.World as world
use Rattle.run_model.specs.World.{World, Node, Shared, Act, DiskCounts, Outturn, IsOpening, IsLogInOrder, Sound, find_node, with_node, shared_after, shared_tabled}
use Rattle.run_model.specs.Answers as answers
use Rattle.run_model.specs.Answers.{Row, Service, Task, Serves, Ticks, Takes, Hears, LosesLink, RunsDown, Restarts, task_service, refused_before_reading, occupies}
use Rattle.run_model.specs.Operations.{refused_if}
use Rattle.run_model.specs.Steps as steps
use Rattle.run_model.specs.Steps.{Choice, Whole, WithoutMemory, Unpowered, Cut, TaskEffect, service_effect, task_effect, ready_node, occupied, shared_then, shared_after_rows, ServiceAllowed, TaskAllowed}
use Rattle.run_model.specs.Statements as statements
use Rattle.run_model.specs.Statements.{Part, Does, Asks, PartEffect, Question, Heard, Unanswered, Doubtful, Onward, Parts, Phases, Finished, Begins, stops_at, put_into, done_at, part_effect, question_effect, question, phases_of, begun_with, refused_at_once}
use Rattle.run_model.specs.StepLaws.{is_refusal}
use Rattle.run_model.proofs.CauseLemmas.{refuses_first}
use Rattle.run_agreement.specs.Laws.{NamesApart}
use Rattle.run_agreement.specs.Seen.{IsKnown}
use Rattle.run_agreement.proofs.Serving.{IsPlain, first_none, refused_none, not_false, parts_true}
use Rattle.run_agreement.proofs.Tasks.{IsBoot, boot_is, restart_is, ready_is, awake_refused, nothing_cut, nothing_shared}
use Rattle.run_agreement.proofs.Barred.{plain_down, quiet_powered}

-- A node may be in use from a world on, and from then on it may.

tabled_use : (a : table.Act) (s : Shared) → (shared_tabled a s).in_use ≡ s.in_use
tabled_use (table.Notes b) s = refl
tabled_use (table.Accepts b c) s = refl
tabled_use (table.Prepares b) s = refl
tabled_use (table.Settles k out why r) s = refl
tabled_use (table.Leaves k) s = refl
tabled_use (table.Acknowledges k) s = refl
tabled_use (table.Releases i m) s = refl
tabled_use (table.Undoes k) s = refl
tabled_use (table.Sends m) s = refl
tabled_use (table.Prints l) s = refl

act_use : (act : Act) (s : Shared) → (shared_after act s).in_use ≡ s.in_use
act_use (world.Formats slots journal) s = refl
act_use world.Boots s = refl
act_use world.ComesUp s = refl
act_use (world.Creates place file) s = refl
act_use (world.Marks file mark) s = refl
act_use (world.Saves file start) s = refl
act_use (world.Recovers file start buckets m) s = refl
act_use world.Draws s = refl
act_use (world.Labels l) s = refl
act_use (world.Numbers label serial) s = refl
act_use (world.Tables a moment) s = tabled_use a s
act_use (world.Changes tid serial file changes keys) s = refl
act_use (world.Holds serial file keys) s = refl
act_use (world.Directs file changes t) s = refl
act_use (world.Arms writes choice) s = refl
act_use (world.Clocks now) s = refl
act_use (world.Declares rms) s = refl
act_use world.Falls s = refl

then_use : (a : Option Act) (s : Shared) → (shared_then a s).in_use ≡ s.in_use
then_use None s = refl
then_use (Some act) s = act_use act s

rows_use : (rs : List Row) (s : Shared) → (shared_after_rows rs s).in_use ≡ s.in_use
rows_use [] s = refl
rows_use (r ∷ rs) s = rows_use rs (shared_then r.act s) ∙ then_use r.act s

or_left : (a b : Bool) → a ≡ true → (a || b) ≡ true
or_left true b e = refl
or_left false b e = absurd (let f : false ≡ true = e in cc)

service_used : (s : Shared) (stops : ℕ) (x : Node) (e : Service) (c : Choice) → s.in_use ≡ true → (service_effect s stops x e c).shared.in_use ≡ true
service_used s stops x e (Whole outturn) u = by (refused_before_reading s x e)
  where
    begins : (l : Option Line) → (steps.begun s (ready_node outturn stops e x) e l).shared.in_use ≡ true
    begins (Some l) = u
    begins None = or_left _ (occupies e) (then_use e.closing (shared_after_rows (e.rows s (ready_node outturn stops e x)) s) ∙ (rows_use (e.rows s (ready_node outturn stops e x)) s ∙ u))

    by : (l : Option Line) → (steps.whole s x (ready_node outturn stops e x) e l).shared.in_use ≡ true
    by (Some l) = u
    by None = begins (e.refused_after_reading s (ready_node outturn stops e x))
service_used s stops x e WithoutMemory u = u
service_used s stops x e Unpowered u = or_left s.in_use (occupies e) u
service_used s stops x e (Cut outturn done begun cause) u =
    let y : Node = ready_node outturn stops e x in
    or_left _ (occupies e) (rows_use (take done (steps.rows_to_cut s y e)) s ∙ u)

-- A node in no use yet, whether or not something is known of its disk.
pub record IsIdle (n : Node) : Type 0 where
  pub down : n.up ≡ false
  pub quiet : n.under_way ≡ None
  pub settled : n.settled ≡ []
  pub log : n.durable.volume ≡ Sound → IsLogInOrder n

-- a rack of such nodes
pub record IsRack (w : World) : Type 0 where
  pub nodes : (n : Name) (x : Node) → find_node n w.nodes ≡ Some x → IsIdle x
  pub apart : NamesApart w.nodes
  pub labels : w.shared.labels ≡ []
  pub wire : w.shared.wire ≡ []
  pub accepted : w.shared.accepted ≡ []
  pub read_only : w.shared.read_only ≡ []

-- One in which no node may be in use, or a world in which a node may be.
abbrev pub Beginning : World → Type 0
Beginning w = (w.shared.in_use ≡ true) ⊎ (IsRack w × (w.shared.in_use ≡ false))

used_done : (w : World) (n : Name) (t : Task) (c : Choice) → w.shared.in_use ≡ true → (done_at w n t c).world.shared.in_use ≡ true
used_done w n t c u = by (find_node n w.nodes)
  where
    by : (d : Option Node) → (let e : PartEffect = elim d [ Some x ↦ put_into w n (task_effect w.shared (stops_at n w) x t c) | None ↦ statements.no_node w ] in e).world.shared.in_use ≡ true
    by None = u
    by (Some x) = service_used w.shared (stops_at n w) x (task_service t) c u

pub used_part : (w : World) (p : Part) (c : Choice) → w.shared.in_use ≡ true → (part_effect w p c).world.shared.in_use ≡ true
used_part w (Does n t) c u = used_done w n t c u
used_part w (Asks n serial) c u = by (question w n serial)
  where
    by : (q : Question) → (question_effect w c q).world.shared.in_use ≡ true
    by (Heard m) = used_done w m.to (Hears m) c u
    by Unanswered = u
    by (Doubtful k) = u

-- A node in no use.

same_log : (x : Node) (calls : List world.Call) (clock : ℕ) (under_way : Option Act) (up unmade : Bool) → IsLogInOrder x → IsLogInOrder (let z : Node = record x { calls = calls; clock = clock; under_way = under_way; up = up; unmade = unmade } in z)
same_log x c k u b m h = record { distinct = h.distinct; reached = h.reached; prepared_within = h.prepared_within; committed_within = h.committed_within; prepared = h.prepared; active = h.active; transactions = h.transactions; unsettled = h.unsettled; few = h.few; slots = h.slots }

-- behind a task: the node is in no use still, nor may another be that was not, nothing is shared, its disk is so, and what was known of it still is
pub record StaysUnused (x z : Node) (s t : Shared) (D : Type 0) : Type 0 where
  pub named : z.name ≡ x.name
  pub use_same : t.in_use ≡ s.in_use
  pub disk : D
  pub idle : IsIdle z
  pub known : IsKnown x → IsKnown z
  pub labels : t.labels ≡ s.labels
  pub wire : t.wire ≡ s.wire
  pub accepted : t.accepted ≡ s.accepted
  pub read_only : t.read_only ≡ s.read_only

-- the disk has what it had
abbrev pub IsSameDisk : Node → Node → Type 0
IsSameDisk x z = z.durable ≡ x.durable

abbrev pub Turns : Node → Node → Shared → Shared → Type 0
Turns x z s t = (t.in_use ≡ true) ⊎ StaysUnused x z s t (IsSameDisk x z)

kept : (D : Type 0) (x z : Node) (s : Shared) (used : Bool) → used ≡ s.in_use → z.name ≡ x.name → IsIdle z → (IsKnown x → IsKnown z) → D → StaysUnused x z s (record s { in_use = used }) D
kept D x z s used same named u k d = record { named = named; use_same = same; disk = d; idle = u; known = k; labels = refl; wire = refl; accepted = refl; read_only = refl }

stays : (x z : Node) (s : Shared) (used : Bool) → used ≡ s.in_use → z.name ≡ x.name → IsIdle z → (IsKnown x → IsKnown z) → IsSameDisk x z → Turns x z s (record s { in_use = used })
stays x z s used same named u k d = inr (kept (IsSameDisk x z) x z s used same named u k d)

or_none : (b : Bool) → (b || false) ≡ b
or_none true = refl
or_none false = refl

abbrev pub TurnsBy : Node → Shared → ℕ → Service → Choice → Type 0
TurnsBy x s stops e c = Turns x (service_effect s stops x e c).node s (service_effect s stops x e c).shared

plain_turns : (x : Node) (s : Shared) (stops : ℕ) (e : Service) (rises : Cause → Type 0) (c : Choice) → IsPlain e → IsIdle x → ServiceAllowed s stops x e rises c → TurnsBy x s stops e c
plain_turns x s stops e rises (Whole outturn) plain u may = by (refused_before_reading s x e) refl
  where
    by : (l : Option Line) → refused_before_reading s x e ≡ l → Turns x (steps.whole s x (ready_node outturn stops e x) e l).node s (steps.whole s x (ready_node outturn stops e x) e l).shared
    by (Some l) h = stays x x s s.in_use refl refl u (λ k. k) refl
    by None h = absurd (plain_down s x e plain u.down h)
plain_turns x s stops e rises WithoutMemory plain u may = stays x x s s.in_use refl refl u (λ k. k) refl
plain_turns x s stops e rises Unpowered plain u may = absurd (plain_down s x e plain u.down may.0)
plain_turns x s stops e rises (Cut outturn done begun cause) plain u may = absurd (plain_down s x e plain u.down may.0)

fuse_turns : (x : Node) (s : Shared) (stops : ℕ) (writes choice : ℕ) (rises : Cause → Type 0) (c : Choice) → IsIdle x → ServiceAllowed s stops x (answers.service (Fuse writes choice)) rises c → TurnsBy x s stops (answers.service (Fuse writes choice)) c
fuse_turns x s stops writes choice rises (Whole outturn) u may =
    let e : Service = answers.service (Fuse writes choice) in
    let P : Option Line → Type 0 = λ l. Turns x (steps.whole s x x e l).node s (steps.whole s x x e l).shared in
    let z : Node = world.acted (world.Arms writes choice) x in
    subst P (sym (awake_refused s x e refl)) (stays x z s (s.in_use || false) (or_none s.in_use) refl (record { down = u.down; quiet = u.quiet; settled = u.settled; log = λ v. same_log x (world.Arm writes choice ∷ x.calls) x.clock x.under_way x.up x.unmade (u.log v) }) (λ k. k) refl)
fuse_turns x s stops writes choice rises WithoutMemory u may = stays x x s s.in_use refl refl u (λ k. k) refl
fuse_turns x s stops writes choice rises Unpowered u may = absurd (let f : false ≡ true = may.1 in cc)
fuse_turns x s stops writes choice rises (Cut outturn done begun cause) u may = absurd (let f : false ≡ true = may.1 in cc)

clock_turns : (x : Node) (s : Shared) (stops : ℕ) (now : ℕ) (rises : Cause → Type 0) (c : Choice) → IsIdle x → ServiceAllowed s stops x (answers.service (Clock now)) rises c → TurnsBy x s stops (answers.service (Clock now)) c
clock_turns x s stops now rises (Whole outturn) u may =
    let e : Service = answers.service (Clock now) in
    let P : Option Line → Type 0 = λ l. Turns x (steps.whole s x x e l).node s (steps.whole s x x e l).shared in
    let z : Node = world.acted (world.Clocks now) x in
    subst P (sym (awake_refused s x e refl)) (stays x z s (s.in_use || false) (or_none s.in_use) refl (record { down = u.down; quiet = u.quiet; settled = u.settled; log = λ v. same_log x x.calls now x.under_way x.up x.unmade (u.log v) }) (λ k. k) refl)
clock_turns x s stops now rises WithoutMemory u may = stays x x s s.in_use refl refl u (λ k. k) refl
clock_turns x s stops now rises Unpowered u may = absurd (let f : false ≡ true = may.1 in cc)
clock_turns x s stops now rises (Cut outturn done begun cause) u may = absurd (let f : false ≡ true = may.1 in cc)

or_right : (a b : Bool) → b ≡ true → (a || b) ≡ true
or_right true b e = refl
or_right false b e = e

boot_turns : (x : Node) (s : Shared) (stops : ℕ) (e : Service) (rises : Cause → Type 0) (c : Choice) → IsBoot e → occupies e ≡ true → IsIdle x → ServiceAllowed s stops x e rises c → TurnsBy x s stops e c
boot_turns x s stops e rises (Whole outturn) boot used u may = by (refused_before_reading s x e) refl
  where
    r : Node
    r = ready_node outturn stops e x

    begins : (l : Option Line) → Turns x (steps.begun s (ready_node outturn stops e x) e l).node s (steps.begun s (ready_node outturn stops e x) e l).shared
    begins (Some l) =
        let P : Node → Type 0 = λ z. Turns x z s s in
        subst P (sym (ready_is outturn stops e x boot ∙ quiet_powered outturn stops x u.quiet)) (stays x (let z : Node = record x { calls = world.Power stops ∷ x.calls; under_way = None } in z) s s.in_use refl refl
        (record { down = u.down; quiet = refl; settled = u.settled; log = λ v. same_log x (world.Power stops ∷ x.calls) x.clock None x.up x.unmade (u.log v) }) (λ k. k) refl)
    begins None = inl (or_right (shared_then e.closing (shared_after_rows (e.rows s (ready_node outturn stops e x)) s)).in_use (occupies e) used)

    by : (l : Option Line) → refused_before_reading s x e ≡ l → Turns x (steps.whole s x (ready_node outturn stops e x) e l).node s (steps.whole s x (ready_node outturn stops e x) e l).shared
    by (Some l) h = stays x x s s.in_use refl refl u (λ k. k) refl
    by None h = begins (e.refused_after_reading s (ready_node outturn stops e x))
boot_turns x s stops e rises WithoutMemory boot used u may = stays x x s s.in_use refl refl u (λ k. k) refl
boot_turns x s stops e rises Unpowered boot used u may = inl (or_right s.in_use (occupies e) used)
boot_turns x s stops e rises (Cut outturn done begun cause) boot used u may =
    let y : Node = ready_node outturn stops e x in
    inl (or_right (shared_after_rows (take done (steps.rows_to_cut s y e)) s).in_use (occupies e) used)

-- A volume is made.

pub no_records : (k : ℕ) → records_in (replicate k None) ≡ []
no_records zero = refl
no_records (suc k) = no_records k

made_in_order : (x : Node) (slots journal : ℕ) → slots ≤ 512 → IsLogInOrder (world.acted (world.Formats slots journal) x)
made_in_order x slots journal few =
    let e = sym (no_records slots) in
    record {
      distinct = subst (λ rs. Distinct (record_serials rs)) e tt;
      reached = subst (AllByRecursion (λ (r : LogRecord). world.IsReached (world.acted (world.Formats slots journal) x) r.serial)) e tt;
      prepared_within = λ r i. absurd (subst (λ rs. In r (prepared_of rs)) (no_records slots) i);
      committed_within = λ r i. absurd (subst (λ rs. In r (committed_of rs)) (no_records slots) i);
      prepared = λ serial u f p. let none : ⊥ = cc in absurd none;
      active = λ r u i f. absurd (subst (λ rs. In r (prepared_of rs)) (no_records slots) i);
      transactions = subst (λ rs. AllByRecursion (λ (r : LogRecord). AllByRecursion (world.IsOfTransaction r.tid r.serial) []) (prepared_of rs)) e tt;
      unsettled = subst (λ rs. AllByRecursion (λ (r : LogRecord). is_settled_in r.serial [] ≡ false) (prepared_of rs)) e tt;
      few = subst (λ rs. 0 + length (world.without_units empty_journal (prepared_of rs)) ≤ 64) e (omega arith);
      slots = subst (λ k. k ≤ 512) (sym (length-replicate slots None)) few;
    }

made_unused : (x : Node) (slots journal : ℕ) → slots ≤ 512 → IsIdle x → IsIdle (world.acted (world.Formats slots journal) x)
made_unused x slots journal few u = record { down = u.down; quiet = u.quiet; settled = u.settled; log = λ e. made_in_order x slots journal few }

-- a node of whose disk nothing is known
spoilt_unused : (x : Node) → x.up ≡ false → x.under_way ≡ None → x.settled ≡ [] → IsIdle (steps.with_unknown_volume true x)
spoilt_unused x down quiet settled = record { down = down; quiet = quiet; settled = settled; log = λ e. absurd (let f : ⊥ = cc in f) }

-- it is so from the moment at which an INIT makes the disk run
abbrev spoilt_ready : Outturn → ℕ → Node → Node
spoilt_ready outturn stops x = steps.with_unknown_volume true (world.powered outturn stops x)

spoilt_named : (outturn : Outturn) (stops : ℕ) (x : Node) → IsIdle x → (spoilt_ready outturn stops x).name ≡ x.name
spoilt_named outturn stops x u = ap (λ (z : Node). z.name) (quiet_powered outturn stops x u.quiet)

ready_unused : (outturn : Outturn) (stops : ℕ) (x : Node) → IsIdle x → IsIdle (spoilt_ready outturn stops x)
ready_unused outturn stops x u =
    let P : Node → Type 0 = λ z. IsIdle (steps.with_unknown_volume true z) in
    subst P (sym (quiet_powered outturn stops x u.quiet)) (spoilt_unused (let z : Node = record x { calls = world.Power stops ∷ x.calls; under_way = None } in z) u.down refl u.settled)

-- An INIT that is not refused is of no more than 512 slots.
few_slots : (x : Node) (s : Shared) (slots journal : ℕ) → refused_before_reading s x (answers.service (Init slots journal)) ≡ None → slots ≤ 512
few_slots x s slots journal h =
    let refusals = first_none (refused_if s.in_use line.VolumeInUse) _ (sym (awake_refused s x (answers.service (Init slots journal)) refl) ∙ h) in
    let fits = not_false (answers.is_volume_form slots journal x) (refused_none (not (answers.is_volume_form slots journal x)) line.BadParameter refusals.1) in
    let sizes = parts_true (answers.is_within 64 512 slots && answers.is_within 64 8192 journal) (nat_lt (584 + slots + journal) x.blocks) fits in
    let within = parts_true (answers.is_within 64 512 slots) (answers.is_within 64 8192 journal) sizes.0 in
    leb-true slots 512 (parts_true (nat_le 64 slots) (nat_le slots 512) within.0).1

-- What an INIT leaves of the disk, by its answer: a new volume; nothing of which anything is known; or what there was.
abbrev pub InitLeaves : (slots journal : ℕ) → (x z : Node) → Line → Type 0
InitLeaves slots journal x z line.Normal = z.durable ≡ world.made_volume slots journal
InitLeaves slots journal x z (line.Broken cause) = (z.durable.volume ≡ world.Unknown) × (z.unmade ≡ true)
InitLeaves slots journal x z _ = IsSameDisk x z

refused_leaves : (slots journal : ℕ) (x : Node) (l : Line) → is_refusal l ≡ true → InitLeaves slots journal x x l
refused_leaves slots journal x line.Normal h = let no : ⊥ = cc in absurd no
refused_leaves slots journal x (line.Broken cause) h = let no : ⊥ = cc in absurd no
refused_leaves slots journal x _ h = refl

abbrev pub InitStays : (slots journal : ℕ) → Node → Shared → TaskEffect → Type 0
InitStays slots journal x s f = StaysUnused x f.node s f.shared (InitLeaves slots journal x f.node f.answer)

abbrev pub StaysBy : (slots journal : ℕ) → Node → Shared → ℕ → Choice → Type 0
StaysBy slots journal x s stops c = InitStays slots journal x s (service_effect s stops x (answers.service (Init slots journal)) c)

pub init_stays : (x : Node) (s : Shared) (stops : ℕ) (slots journal : ℕ) (rises : Cause → Type 0) (c : Choice) → IsIdle x → ServiceAllowed s stops x (answers.service (Init slots journal)) rises c → StaysBy slots journal x s stops c
init_stays x s stops slots journal rises (Whole outturn) u may = by (refused_before_reading s x (answers.service (Init slots journal))) refl
  where
    by : (l : Option Line) → refused_before_reading s x (answers.service (Init slots journal)) ≡ l → InitStays slots journal x s (steps.whole s x (spoilt_ready outturn stops x) (answers.service (Init slots journal)) l)
    by (Some l) h = kept (InitLeaves slots journal x x l) x x s s.in_use refl refl u (λ k. k) (refused_leaves slots journal x l ((refuses_first s x (Serves (Init slots journal))).says l h))
    by None h =
        let z : Node = world.acted (world.Formats slots journal) (spoilt_ready outturn stops x) in
        kept (InitLeaves slots journal x z line.Normal) x z s (s.in_use || false) (or_none s.in_use) (spoilt_named outturn stops x u) (made_unused (spoilt_ready outturn stops x) slots journal (few_slots x s slots journal h) (ready_unused outturn stops x u)) (λ k e. absurd (let f : ⊥ = cc in f)) refl
init_stays x s stops slots journal rises WithoutMemory u may = kept (IsSameDisk x x) x x s s.in_use refl refl u (λ k. k) refl
init_stays x s stops slots journal rises Unpowered u may =
    let z : Node = steps.with_unknown_volume true (world.unpowered stops x) in
    kept (InitLeaves slots journal x z (line.Broken line.Failed)) x z s (s.in_use || false) (or_none s.in_use) refl (spoilt_unused (world.unpowered stops x) refl u.quiet u.settled) (λ k e. refl) (refl, refl)
init_stays x s stops slots journal rises (Cut outturn done begun cause) u may =
    let y : Node = spoilt_ready outturn stops x in
    let e : Service = answers.service (Init slots journal) in
    let r : IsIdle y = ready_unused outturn stops x u in
    let D : Node → Type 0 = λ z. InitLeaves slots journal x z (line.Broken cause) in
    let R : Node → Type 0 = λ z. StaysUnused x z s (occupied e (let rs : List Row = [] in shared_after_rows (take done rs) s)) (D z) in
    let S : Shared → Type 0 = λ t. StaysUnused x (world.fallen None y) s (occupied e t) (D (world.fallen None y)) in
    subst R (sym (nothing_cut done begun y)) (subst S (sym (nothing_shared done s))
    (kept (D (world.fallen None y)) x (world.fallen None y) s (s.in_use || false) (or_none s.in_use) (spoilt_named outturn stops x u) (record { down = refl; quiet = refl; settled = r.settled; log = λ v. absurd (let f : ⊥ = cc in f) }) (λ k e. refl) (refl, refl)))

-- All tasks.

-- what a task leaves of a disk
abbrev pub TaskLeaves : Task → Node → TaskEffect → Type 0
TaskLeaves (Serves (Init slots journal)) x f = InitLeaves slots journal x f.node f.answer
TaskLeaves _ x f = IsSameDisk x f.node

abbrev pub TaskTurnsBy : Task → Node → Shared → TaskEffect → Type 0
TaskTurnsBy t x s f = (f.shared.in_use ≡ true) ⊎ StaysUnused x f.node s f.shared (TaskLeaves t x f)

abbrev pub TaskTurns : Task → Type 1
TaskTurns t = (x : Node) (s : Shared) (stops : ℕ) (rises : Cause → Type 0) (c : Choice) → IsIdle x → TaskAllowed s stops x t rises c → TaskTurnsBy t x s (task_effect s stops x t c)

abbrev PlainTurns : Task → Type 1
PlainTurns t = (x : Node) (s : Shared) (stops : ℕ) (rises : Cause → Type 0) (c : Choice) → IsIdle x → TaskAllowed s stops x t rises c → TurnsBy x s stops (task_service t) c

plain_task : (t : Task) → IsPlain (task_service t) → PlainTurns t
plain_task t plain x s stops rises c u may = plain_turns x s stops (task_service t) rises c plain u may

pub task_turns : (t : Task) → TaskTurns t
task_turns (Serves (Init slots journal)) = λ x s stops rises c u may. inr (init_stays x s stops slots journal rises c u may)
task_turns (Serves Boot) = λ x s stops rises c u may. boot_turns x s stops (answers.service Boot) rises c boot_is refl u may
task_turns (Serves (Fuse writes choice)) = λ x s stops rises c u may. fuse_turns x s stops writes choice rises c u may
task_turns (Serves (Clock now)) = λ x s stops rises c u may. clock_turns x s stops now rises c u may
task_turns (Serves (said.Create file bucket size form)) = plain_task (Serves (said.Create file bucket size form)) (record { powers = refl; closing = refl; awake = refl })
task_turns (Serves (said.SetFile file setting)) = plain_task (Serves (said.SetFile file setting)) (record { powers = refl; closing = refl; awake = refl })
task_turns (Serves (said.StartTrans label seconds)) = plain_task (Serves (said.StartTrans label seconds)) (record { powers = refl; closing = refl; awake = refl })
task_turns (Serves (said.AddBranch label other new)) = plain_task (Serves (said.AddBranch label other new)) (record { powers = refl; closing = refl; awake = refl })
task_turns (Serves (said.StartBranch label)) = plain_task (Serves (said.StartBranch label)) (record { powers = refl; closing = refl; awake = refl })
task_turns (Serves (said.Records label file op)) = plain_task (Serves (said.Records label file op)) (record { powers = refl; closing = refl; awake = refl })
task_turns (Serves (said.Direct file op)) = plain_task (Serves (said.Direct file op)) (record { powers = refl; closing = refl; awake = refl })
task_turns (Serves (said.EndBranch label)) = plain_task (Serves (said.EndBranch label)) (record { powers = refl; closing = refl; awake = refl })
task_turns (Serves (said.EndTrans label)) = plain_task (Serves (said.EndTrans label)) (record { powers = refl; closing = refl; awake = refl })
task_turns (Serves (said.AbortTrans label)) = plain_task (Serves (said.AbortTrans label)) (record { powers = refl; closing = refl; awake = refl })
task_turns (Serves (said.Inquire who)) = plain_task (Serves (said.Inquire who)) (record { powers = refl; closing = refl; awake = refl })
task_turns (Serves (said.DeclareRm rm)) = plain_task (Serves (said.DeclareRm rm)) (record { powers = refl; closing = refl; awake = refl })
task_turns (Serves (said.JoinRm label rm)) = plain_task (Serves (said.JoinRm label rm)) (record { powers = refl; closing = refl; awake = refl })
task_turns (Serves (said.AckEvent who rm reply)) = plain_task (Serves (said.AckEvent who rm reply)) (record { powers = refl; closing = refl; awake = refl })
task_turns (Serves (said.ForgetRm rm)) = plain_task (Serves (said.ForgetRm rm)) (record { powers = refl; closing = refl; awake = refl })
task_turns (Serves (said.GetDti who)) = plain_task (Serves (said.GetDti who)) (record { powers = refl; closing = refl; awake = refl })
task_turns (Serves said.LmcpShow) = plain_task (Serves said.LmcpShow) (record { powers = refl; closing = refl; awake = refl })
task_turns (Serves said.LmcpDump) = plain_task (Serves said.LmcpDump) (record { powers = refl; closing = refl; awake = refl })
task_turns (Serves (said.Dump file)) = plain_task (Serves (said.Dump file)) (record { powers = refl; closing = refl; awake = refl })
task_turns (Serves said.DumpJournal) = plain_task (Serves said.DumpJournal) (record { powers = refl; closing = refl; awake = refl })
task_turns (Serves (said.DumpImages file side)) = plain_task (Serves (said.DumpImages file side)) (record { powers = refl; closing = refl; awake = refl })
task_turns (Serves (said.Backup file)) = plain_task (Serves (said.Backup file)) (record { powers = refl; closing = refl; awake = refl })
task_turns (Serves (said.Recover file way)) = plain_task (Serves (said.Recover file way)) (record { powers = refl; closing = refl; awake = refl })
task_turns (Serves said.Crash) = plain_task (Serves said.Crash) (record { powers = refl; closing = refl; awake = refl })
task_turns Ticks = plain_task Ticks (record { powers = refl; closing = refl; awake = refl })
task_turns (Takes m) = plain_task (Takes m) (record { powers = refl; closing = refl; awake = refl })
task_turns (Hears m) = plain_task (Hears m) (record { powers = refl; closing = refl; awake = refl })
task_turns (LosesLink other) = plain_task (LosesLink other) (record { powers = refl; closing = refl; awake = refl })
task_turns RunsDown = plain_task RunsDown (record { powers = refl; closing = refl; awake = refl })
task_turns Restarts = λ x s stops rises c u may. boot_turns x s stops (task_service Restarts) rises c restart_is refl u may
