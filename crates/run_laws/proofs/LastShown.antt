-- What becomes known where a line shows that a branch is committed as the last settlement of its disk.
use Rattle.std.proofs.Common.{◌≡◌, ◌≤◌, ℕ, ◌⊎◌, List, [], ◌∷◌, inl, inr, true, false, Option, Some, None, refl, sym, ◌∙◌, ap, subst, arith}
use Rattle.std.proofs.lemmas.Bool.{both_ways}
use Rattle.vms_model.specs.Ids.{Id}
use Rattle.vms_model.specs.Transactions.{Outcome, Commit, Abort, Reason}
use Rattle.run_said.specs.transcript_model.Lines as line
use Rattle.run_said.specs.transcript_model.Lines.{Line, Cause}
use Rattle.run_said.specs.script_model.Statements.{Statement, Reading, Blank, Says, Bad}
use Rattle.commit_protocol.specs.Table as table
use Rattle.commit_protocol.specs.World.{In}
use Rattle.unit_laws.specs.Units.{Map}
use Rattle.run_said.specs.run_model.World as world
use Rattle.run_said.specs.run_model.World.{World, Shared, Node, Act, DiskCounts, Outturn, Lost, Taken, Half, MayTurnOut, Settlement, Tables, Directs, acted, find_node, is_durable, powered, with_half, aborted_prepared}
use Rattle.run_said.specs.run_model.Answers.{Task, last_line, last_lines, powers, task_service}
use Rattle.run_said.specs.run_model.Steps.{Choice, TaskAllowed, task_effect}
use Rattle.run_said.specs.run_model.Statements.{Part, PartEffect, Begins, Phases, Step, Allowed, RoseAt, begun_with, part_effect, phases_of, put_into, refused_at_once, stops_at}
use Rattle.run_said.specs.run_model.Transcript.{Entry, Legal}
use Rattle.run_said.proofs.run_model.NodeLists.{found_name, put_node, some_is}
use Rattle.run_said.proofs.run_model.PartTasks.{View, Doing, Fixed, view}
use Rattle.run_said.proofs.run_model.Refusing.{each_phase}
use Rattle.run_said.proofs.run_model.TaskLemmas.{effect_name}
use Rattle.recovery_laws.specs.world_laws.Nodes.{IsOf}
use Rattle.run_laws.specs.Promises.{last_in, settlements_of}
use Rattle.run_laws.proofs.Keeping.{Kept, else_effect, is_init, powered_kept}
use Rattle.run_laws.proofs.LastBoots.{boots, plain_one}
use Rattle.run_laws.proofs.LastOwn.{lasting, lasting_keeps}
use Rattle.run_laws.proofs.OneBranch as branch
use Rattle.run_laws.proofs.OneBranch.{one, one_keeps}
use Rattle.run_laws.proofs.Once.{once, once_keeps}
use Rattle.run_laws.proofs.Paths.{IsOn, path_on}
use Rattle.run_laws.proofs.Restarting.{LastSeen, last_seen}
use Rattle.run_laws.proofs.ShownSettled.{answer_plain, in_append}
use Rattle.run_laws.proofs.SoundWorlds.{IsSound, begins_sound, changed, Changed, Here, Beside, part_sound, sound_node, step_sound}
use Rattle.run_laws.proofs.Staying.{found_settled}
use Rattle.run_laws.proofs.Walking.{Sighted, phases_walk, sighted}

-- any part
abbrev pub Any : Part → Type 0
Any p = Unit {0}

-- a line of a last settlement is shown by a part of its statement
pub step_sighted : (w v : World) (s : Statement) (lines : List Line) (step : Step w s lines v) (l : Line) (y : Settlement) → In l lines → last_in l ≡ Some y → Sighted Any v.disks (begun_with s w) step.events step.world l
step_sighted w v s lines step l y i e = go (refused_at_once w s) step.does
  where
    there : In l step.events
    there = elim (in_append l step.events (step.answer ∷ []) (subst (In l) step.shows i)) [
      | inl j ↦ j
      | inr j ↦ elim j [ inl same ↦ absurd (plain_one step.answer y (answer_plain w v s lines step) (ap last_in (sym same) ∙ e)) | inr none ↦ absurd none ]
    ]

    go : (o : Option Line) → Begins o (Phases (phases_of s) v.disks (begun_with s w) line.Normal) w step.events step.answer step.world → Sighted Any v.disks (begun_with s w) step.events step.world l
    go (Some refusal) d = absurd (subst (In l) d.0 there)
    go None d = let x = phases_walk Any v.disks (phases_of s) (each_phase s) (begun_with s w) line.Normal step.events step.answer step.world d in sighted Any v.disks x.0 (begun_with s w) step.events step.world l x.1 there

-- the disk whose last settlement a line shows
last_is : (n : Node) (t x : Id) (moment : ℕ) → In (line.LastCommitted t x moment) (last_lines n) → (s : Settlement) × (n.durable.last ≡ Some s) × (s.serial ≡ x) × (s.outcome ≡ Commit)
last_is n t x moment i = go n.durable.last refl i
  where
    at : (s : Settlement) (o : Outcome) (r : Option Reason) → In (line.LastCommitted t x moment) (elim o as (λ y. List Line) [ Commit ↦ line.LastCommitted s.tid s.serial s.moment ∷ [] | Abort ↦ elim r as (λ y. List Line) [ Some reason ↦ line.LastAborted s.tid s.serial reason s.moment ∷ [] | None ↦ [] ] ]) → (s.serial ≡ x) × (o ≡ Commit)
    at s Commit r j = elim j [ inl same ↦ (let is : line.LastCommitted t x moment ≡ line.LastCommitted s.tid s.serial s.moment = same in (cc, refl)) | inr none ↦ absurd none ]
    at s Abort (Some reason) j = elim j [ inl same ↦ (let no : ⊥ = cc in absurd no) | inr none ↦ absurd none ]
    at s Abort None j = absurd j

    go : (o : Option Settlement) → n.durable.last ≡ o → In (line.LastCommitted t x moment) (elim o as (λ y. List Line) [ Some s ↦ last_line s | None ↦ [] ]) → (s : Settlement) × (n.durable.last ≡ Some s) × (s.serial ≡ x) × (s.outcome ≡ Commit)
    go (Some s) e j = let r = at s s.outcome s.reason j in (s, e, r.0, r.1)
    go None e j = absurd j

-- What a disk that runs again had last is of a boot that it had counted.
half_last : (o : Option Id) (standing : List ℕ → Map) (d : world.Durable) → (with_half o standing d).last ≡ d.last
half_last None standing d = refl
half_last (Some serial) standing d = refl

act_boot : (act : Act) (n : Node) → is_durable act ≡ true → ((acted act n).durable.last ≡ n.durable.last) ⊎ ((acted act n).durable.boot ≡ n.durable.boot)
act_boot world.Boots n d = inl refl
act_boot (world.Formats slots journal) n d = let no : ⊥ = cc in absurd no
act_boot (Tables (table.Settles k o reason r) moment) n d = inr refl
act_boot (Tables (table.Undoes k) moment) n d = inr refl
act_boot (Tables _ moment) n d = inr refl
act_boot _ n d = inr refl

of_powered : (s : Shared) (stops : ℕ) (n : Node) (o : Outturn) (y : Settlement) → ((act : Act) → n.under_way ≡ Some act → is_durable act ≡ true) → Kept once once_keeps tt n → (powered o stops n).durable.last ≡ Some y → IsOf n.name n.durable.boot y.serial
of_powered s stops n Lost y durable h e = h.disk.last y e
of_powered s stops n (Half standing) y durable h e = h.disk.last y (sym (half_last (aborted_prepared n.under_way n.durable) standing n.durable) ∙ e)
of_powered s stops n Taken y durable h e = go n.under_way refl e
  where
    go : (w : Option Act) → n.under_way ≡ w → (powered Taken stops (record n { under_way = w })).durable.last ≡ Some y → IsOf n.name n.durable.boot y.serial
    go None is f = h.disk.last y f
    go (Some act) is f =
        let d = durable act is in
        let last : (acted act n).durable.last ≡ Some y = sym (like act d) ∙ f in
        elim (act_boot act n d) [
          | inl same ↦ h.disk.last y (sym same ∙ last)
          | inr boot ↦ (let k = (h.way act is).last y last in (k.0 ∙ name act, subst (λ b. y.serial.boot ≤ b) boot k.1))
        ]
      where
        name : (act : Act) → (acted act n).name ≡ n.name
        name (Tables a moment) = refl
        name (Directs file cs t) = refl
        name _ = refl

        like : (act : Act) → is_durable act ≡ true → (acted act (record n { under_way = Some act })).durable.last ≡ (acted act n).durable.last
        like world.Boots d = refl
        like (world.Formats slots journal) d = let no : ⊥ = cc in absurd no
        like (Tables (table.Settles k o reason r) moment) d = refl
        like (Tables (table.Undoes k) moment) d = refl
        like (Tables _ moment) d = refl
        like _ d = refl

module _ (x : Id) where
  abbrev pub IsLasting : World → Type 0
  IsLasting w = IsOn (lasting x) (lasting_keeps x) x.node tt (λ ls. refl) (λ m. tt) w

  -- at most: it was drawn
  abbrev pub IsOld : World → Type 0
  IsOld w = IsOn (one x (λ t. Unit {0}) (λ t. Unit {0}) (λ s. Unit {0})) (one_keeps x (λ t. Unit {0}) (λ t. Unit {0}) (λ s. Unit {0}) (λ t p. p) (λ s e h. h)) x.node tt (λ ls. refl) (λ m. tt) w

  pub lasting_on : (w v : World) (es : List Entry) → Legal w es v → IsLasting w → IsLasting v
  lasting_on w v es legal h = path_on (lasting x) (lasting_keeps x) x.node tt (λ ls. refl) (λ m. tt) (λ o. tt) w v es legal h

  pub all_old : (o : Option Act) → (one x (λ t. Unit {0}) (λ t. Unit {0}) (λ s. Unit {0})).Takes o
  all_old (Some (Tables (table.Prepares b) moment)) = λ e h. h
  all_old (Some (Tables _ moment)) = tt
  all_old (Some _) = tt
  all_old None = tt

  pub old_on : (w v : World) (es : List Entry) → Legal w es v → IsOld w → IsOld v
  old_on w v es legal h = path_on (one x (λ t. Unit {0}) (λ t. Unit {0}) (λ s. Unit {0})) (one_keeps x (λ t. Unit {0}) (λ t. Unit {0}) (λ s. Unit {0}) (λ t p. p) (λ s e h. h)) x.node tt (λ ls. refl) (λ m. tt) all_old w v es legal h

  -- A part that shows the line, at a node.
  pub record SeenAt (u : World) (p : Part) (c : Choice) (disks : List DiskCounts) (t : Id) (moment : ℕ) : Type 0 where
    pub task : Task
    pub n : Node
    pub found : find_node x.node u.nodes ≡ Some n
    pub world : part_effect u p c ≡ put_into u x.node (task_effect u.shared (stops_at x.node u) n task c)
    pub allowed : TaskAllowed u.shared (stops_at x.node u) n task (λ cause. RoseAt u x.node cause disks) c
    pub seen : LastSeen u.shared (stops_at x.node u) n task c (line.LastCommitted t x moment)
    pub s : Settlement
    pub last : (powered seen.outturn (stops_at x.node u) n).durable.last ≡ Some s
    pub serial : s.serial ≡ x
    pub outcome : s.outcome ≡ Commit
    pub of : IsOf n.name n.durable.boot x

  pub seen_at : (u : World) (p : Part) (c : Choice) (after : List DiskCounts) (t : Id) (moment : ℕ) → IsSound u → Allowed u p after c → In (line.LastCommitted t x moment) (part_effect u p c).lines → SeenAt u p c after t moment
  seen_at u p c after t moment sound allowed i = go (view u p)
    where
      go : View u p → SeenAt u p c after t moment
      go (Fixed answer ends kind is) = absurd (subst (λ (e : PartEffect). In (line.LastCommitted t x moment) e.lines) (is c) i)
      go (Doing other task n named found does may) =
          let known = sound_node u sound other n found in
          let rises : Cause → Type 0 = λ cause. RoseAt u other cause after in
          let seen = last_seen u.shared (stops_at other u) n task c rises (line.LastCommitted t x moment) (record { tid = t; serial = x; outcome = Commit; reason = None; moment = moment }) known.kept (may after c allowed) (subst (λ (e : PartEffect). In (line.LastCommitted t x moment) e.lines) (does c) i) refl in
          let l = last_is (powered seen.outturn (stops_at other u) n) t x moment seen.there in
          let of = of_powered u.shared (stops_at other u) n seen.outturn l.0 (λ act e. (known.kept.way act e).0) known.once l.1 in
          let of_x : IsOf n.name n.durable.boot x = subst (IsOf n.name n.durable.boot) l.2 of in
          let home : other ≡ x.node = sym (of_x.0 ∙ found_name other u.nodes n found) in
          at other home n task found (does c) (may after c allowed) seen l.0 l.1 l.2 l.3 of_x
        where
          at : (name : List ℕ) → name ≡ x.node → (n : Node) (task : Task) → find_node name u.nodes ≡ Some n → part_effect u p c ≡ put_into u name (task_effect u.shared (stops_at name u) n task c) → TaskAllowed u.shared (stops_at name u) n task (λ cause. RoseAt u name cause after) c →
              (seen : LastSeen u.shared (stops_at name u) n task c (line.LastCommitted t x moment)) → (s : Settlement) → (powered seen.outturn (stops_at name u) n).durable.last ≡ Some s → s.serial ≡ x → s.outcome ≡ Commit → IsOf n.name n.durable.boot x → SeenAt u p c after t moment
          at name home n task found world allowed seen s last serial outcome of = subst (λ (y : List ℕ). find_node y u.nodes ≡ Some n → part_effect u p c ≡ put_into u y (task_effect u.shared (stops_at y u) n task c) → TaskAllowed u.shared (stops_at y u) n task (λ cause. RoseAt u y cause after) c →
              (seen : LastSeen u.shared (stops_at y u) n task c (line.LastCommitted t x moment)) → (powered seen.outturn (stops_at y u) n).durable.last ≡ Some s → SeenAt u p c after t moment) (sym home)
              (λ f w a k l. record { task = task; n = n; found = f; world = w; allowed = a; seen = k; s = s; last = l; serial = serial; outcome = outcome; of = of })
              found world allowed seen last

  -- where it was begun before, it was settled so
  pub settled_so : (u : World) (p : Part) (c : Choice) (after : List DiskCounts) (t : Id) (moment : ℕ) → IsLasting u → (a : SeenAt u p c after t moment) → In a.s (settlements_of x.node (part_effect u p c).world)
  settled_so u p c after t moment h a =
      let known = sound_node u h.sound x.node a.n a.found in
      let r = powered_kept (lasting x) (lasting_keeps x) a.seen.outturn (stops_at x.node u) u.shared a.n tt known.kept tt a.seen.may (h.tracked a.n a.found) in
      let there = a.seen.grows a.s (r.0 a.s a.last a.serial) in
      let e = task_effect u.shared (stops_at x.node u) a.n a.task c in
      let found : find_node x.node (part_effect u p c).world.nodes ≡ Some e.node = ap (λ (y : PartEffect). find_node x.node y.world.nodes) a.world ∙ put_node x.node a.n e.node u.nodes (effect_name u.shared (stops_at x.node u) a.n a.task c) a.found in
      subst (In a.s) (sym (found_settled x.node (part_effect u p c).world e.node found)) there

  -- and it was drawn, in any case
  pub drawn_so : (u : World) (p : Part) (c : Choice) (after : List DiskCounts) (t : Id) (moment : ℕ) → IsSound u → Allowed u p after c → (a : SeenAt u p c after t moment) → IsOld (part_effect u p c).world
  drawn_so u p c after t moment sound allowed a = record {
    sound = part_sound u p c after allowed sound;
    used = ap (λ (y : PartEffect). y.world.shared.in_use) a.world ∙ a.seen.used;
    tracked = λ m is. subst (Kept old_one old_keeps tt) (some_is e.node m (sym found ∙ is)) kept;
  }
    where
      old_one : Rattle.run_laws.proofs.Keeping.Scheme
      old_one = one x (λ t. Unit {0}) (λ t. Unit {0}) (λ s. Unit {0})

      old_keeps : Rattle.run_laws.proofs.Keeping.Keeps (one x (λ t. Unit {0}) (λ t. Unit {0}) (λ s. Unit {0}))
      old_keeps = one_keeps x (λ t. Unit {0}) (λ t. Unit {0}) (λ s. Unit {0}) (λ t p. p) (λ s e h. h)

      e : Rattle.run_said.specs.run_model.Steps.TaskEffect
      e = task_effect u.shared (stops_at x.node u) a.n a.task c

      found : find_node x.node (part_effect u p c).world.nodes ≡ Some (task_effect u.shared (stops_at x.node u) a.n a.task c).node
      found = ap (λ (y : PartEffect). find_node x.node y.world.nodes) a.world ∙ put_node x.node a.n (task_effect u.shared (stops_at x.node u) a.n a.task c).node u.nodes (effect_name u.shared (stops_at x.node u) a.n a.task c) a.found

      on_disk : (act : Act) → is_durable act ≡ true → (acted act a.n).name ≡ a.n.name → branch.IsDisk x (λ t. Unit {0}) (λ t. Unit {0}) (λ s. Unit {0}) (acted act a.n).name (acted act a.n).durable (acted act a.n).settled
      on_disk act d name = record { of = (a.of.0 ∙ sym name, boot act d); prepared = λ r i e. tt; commits = λ s i e q. tt }
        where
          boot : (act : Act) → is_durable act ≡ true → x.boot ≤ (acted act a.n).durable.boot
          boot world.Boots d = let low = a.of.1 in omega (arith, low)
          boot (world.Formats slots journal) d = let no : ⊥ = cc in absurd no
          boot (Tables (table.Settles k o reason r) moment) d = a.of.1
          boot (Tables (table.Undoes k) moment) d = a.of.1
          boot (Tables _ moment) d = a.of.1
          boot _ d = a.of.1

      acted_named : (act : Act) → (acted act a.n).name ≡ a.n.name
      acted_named (Tables b m) = refl
      acted_named (Directs file cs y) = refl
      acted_named _ = refl

      known : Rattle.run_laws.proofs.SoundWorlds.IsSoundNode u.shared a.n
      known = sound_node u sound x.node a.n a.found

      before : Kept (one x (λ t. Unit {0}) (λ t. Unit {0}) (λ s. Unit {0})) (one_keeps x (λ t. Unit {0}) (λ t. Unit {0}) (λ s. Unit {0}) (λ t p. p) (λ s e h. h)) tt a.n
      before = record {
        disk = record { of = a.of; prepared = λ r i e. tt; commits = λ s i e q. tt };
        way = λ act is. on_disk act ((sound_node u sound x.node a.n a.found).kept.way act is).0 (acted_named act);
        runs = λ up. absurd (both_ways a.n.up a.seen.down up);
      }

      no_init : (t : Task) → boots t ≡ true → (is_init t ≡ false) × (powers (task_service t) ≡ true)
      no_init (Rattle.run_said.specs.run_model.Answers.Serves Rattle.run_said.specs.script_model.Statements.Boot) on = (refl, refl)
      no_init Rattle.run_said.specs.run_model.Answers.Restarts on = (refl, refl)
      no_init (Rattle.run_said.specs.run_model.Answers.Serves _) on = let no : ⊥ = cc in absurd no
      no_init _ on = let no : ⊥ = cc in absurd no

      kept : Kept (one x (λ t. Unit {0}) (λ t. Unit {0}) (λ s. Unit {0})) (one_keeps x (λ t. Unit {0}) (λ t. Unit {0}) (λ s. Unit {0}) (λ t p. p) (λ s e h. h)) tt (task_effect u.shared (stops_at x.node u) a.n a.task c).node
      kept = else_effect (one x (λ t. Unit {0}) (λ t. Unit {0}) (λ s. Unit {0})) (one_keeps x (λ t. Unit {0}) (λ t. Unit {0}) (λ s. Unit {0}) (λ t p. p) (λ s e h. h)) u.shared (stops_at x.node u) a.n tt (sound_node u sound x.node a.n a.found).kept before a.task (no_init a.task a.seen.boots).0
          (λ off. absurd (both_ways (powers (task_service a.task)) off (no_init a.task a.seen.boots).1)) (λ on. tt) c (λ cause. RoseAt u x.node cause after) a.allowed
