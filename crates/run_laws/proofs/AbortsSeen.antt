-- An abort that a boot shows as the last settlement of its disk stood at the node before, or was under way there, or was the last of the disk at the opening.
use Rattle.std.proofs.Common.{◌≡◌, ℕ, ◌⊎◌, List, [], ◌∷◌, inl, inr, false, Option, Some, None, refl, sym, ◌∙◌, ap, subst}
use Rattle.std.proofs.lemmas.Bool.{both_ways}
use Rattle.vms_model.specs.Ids.{Id}
use Rattle.vms_model.specs.Transactions.{Outcome, Commit, Abort, Reason}
use Rattle.run_said.specs.transcript_model.Lines as line
use Rattle.run_said.specs.transcript_model.Lines.{Line, Cause}
use Rattle.run_said.specs.script_model.Statements.{Settle}
use Rattle.commit_protocol.specs.World.{In}
use Rattle.run_said.specs.run_model.World.{World, Node, DiskCounts, Settlement, find_node, powered}
use Rattle.run_said.specs.run_model.Answers.{Task, last_line}
use Rattle.run_said.specs.run_model.Steps.{Choice, TaskAllowed, task_effect}
use Rattle.run_said.specs.run_model.Statements.{Part, PartEffect, Step, Allowed, RoseAt, begun_with, part_effect, phases_of, stops_at}
use Rattle.run_said.proofs.run_model.NodeLists.{found_name}
use Rattle.run_said.proofs.run_model.PartLemmas.{phases_fold}
use Rattle.run_said.proofs.run_model.PartTasks.{View, Doing, Fixed, view}
use Rattle.run_said.proofs.run_model.TaskLemmas.{effect_name}
use Rattle.run_laws.specs.Promises.{abort}
use Rattle.run_laws.proofs.LastSettled.{AllLast, IsLastOf, begins_last, lines_of_last, only_line, part_lasts, powered_last}
use Rattle.run_laws.proofs.OwnLines.{line_in, task_owns}
use Rattle.run_laws.proofs.Restarting.{last_seen}
use Rattle.run_laws.proofs.SettlingUp.{IsSettling, each_settling, settle_task, settle_up}
use Rattle.run_laws.proofs.ShownSettled.{in_append}
use Rattle.run_laws.proofs.SoundWorlds.{Changed, Here, Beside, IsSound, begins_sound, changed, part_sound, sound_node}
use Rattle.run_laws.proofs.Unshown.{UnderAt, abort_line, powered_in}

module _ (tid serial : Id) (reason : Reason) (moment : ℕ) where
  abbrev l : Line
  l = line.LastAborted tid serial reason moment

  abbrev s : Settlement
  s = abort tid serial reason moment

  -- the line tells all of it
  told_by : (t : Settlement) → last_line t ≡ line.LastAborted tid serial reason moment ∷ [] → t ≡ abort tid serial reason moment
  told_by t e = go t.outcome t.reason refl refl e
    where
      go : (o : Outcome) (r : Option Reason) → t.outcome ≡ o → t.reason ≡ r → (elim o as (λ y. List Line) [ Commit ↦ line.LastCommitted t.tid t.serial t.moment ∷ [] | Abort ↦ elim r as (λ y. List Line) [ Some why ↦ line.LastAborted t.tid t.serial why t.moment ∷ [] | None ↦ [] ] ]) ≡ line.LastAborted tid serial reason moment ∷ [] → t ≡ abort tid serial reason moment
      go Commit r is why q = let no : ⊥ = cc in absurd no
      go Abort None is why q = let no : ⊥ = cc in absurd no
      go Abort (Some r) is why q =
          let same : line.LastAborted t.tid t.serial r t.moment ≡ line.LastAborted tid serial reason moment = cc in
          let tids : t.tid ≡ tid = cc in
          let serials : t.serial ≡ serial = cc in
          let reasons : r ≡ reason = cc in
          let moments : t.moment ≡ moment = cc in
          (λ i. record { tid = tids i; serial = serials i; outcome = is i; reason = (why ∙ ap Some reasons) i; moment = moments i })

  -- a node has it, or it is under way there
  abbrev pub HasIt : Node → Type 0
  HasIt n = In (abort tid serial reason moment) n.settled ⊎ UnderAt n (abort tid serial reason moment)

  -- of the node at which it is shown
  pub record SeenAt (o : List ℕ → Option Node) (node : List ℕ) (n : Node) : Type 0 where
    pub home : node ≡ serial.node
    pub down : n.up ≡ false
    pub has : HasIt n ⊎ IsLastOf o serial.node (line.LastAborted tid serial reason moment)

  pub task_seen : (o : List ℕ → Option Node) (u : World) (node : List ℕ) (n : Node) (t : Task) (c : Choice) (rises : Cause → Type 0) → AllLast o u → IsSound u → find_node node u.nodes ≡ Some n → TaskAllowed u.shared (stops_at node u) n t rises c →
      In (line.LastAborted tid serial reason moment) (task_effect u.shared (stops_at node u) n t c).lines → SeenAt o node n
  task_seen o u node n t c rises last sound found may i = record { home = home; down = seen.down; has = go (powered seen.outturn (stops_at node u) n).durable.last refl seen.there }
    where
      at : Rattle.run_laws.proofs.SoundWorlds.IsSoundNode u.shared n
      at = sound_node u sound node n found

      seen : Rattle.run_laws.proofs.Restarting.LastSeen u.shared (stops_at node u) n t c (line.LastAborted tid serial reason moment)
      seen = last_seen u.shared (stops_at node u) n t c rises (line.LastAborted tid serial reason moment) (abort tid serial reason moment) at.kept may i refl

      home : node ≡ serial.node
      home = sym (task_owns u.shared (stops_at node u) n t c rises at may (abort tid serial reason moment) (line_in _ (line.LastAborted tid serial reason moment) (abort tid serial reason moment) [] i refl) ∙ found_name node u.nodes n found)

      go : (q : Option Settlement) → (powered seen.outturn (stops_at node u) n).durable.last ≡ q → In (line.LastAborted tid serial reason moment) (elim q [ Some x ↦ last_line x | None ↦ [] ]) → HasIt n ⊎ IsLastOf o serial.node (line.LastAborted tid serial reason moment)
      go None is j = absurd j
      go (Some x) is j =
          let only = only_line (o node) x (line.LastAborted tid serial reason moment) j in
          let same = told_by x only in
          elim (powered_last (o node) seen.outturn (stops_at node u) n (last node n found) x is) [
            | inl k ↦ inl (powered_in (abort tid serial reason moment) (line.Aborted tid serial reason moment) (abort_line tid serial reason moment) seen.outturn (stops_at node u) n (subst (λ y. In y (powered seen.outturn (stops_at node u) n).settled) same k))
            | inr k ↦ inr (k.0, subst (λ y. o y ≡ Some k.0) home k.1, lines_of_last (o node) k.0 x k.2 ∙ only)
          ]

  -- In a settling.

  module _ (o : List ℕ → Option Node) (Known : Type 0) where
    -- at a node that is down it was known
    abbrev pub Down : World → Type 0
    Down u = (n : Node) → find_node serial.node u.nodes ≡ Some n → n.up ≡ false → HasIt n → Known

    abbrev Goal : Type 0
    Goal = Known ⊎ IsLastOf o serial.node (line.LastAborted tid serial reason moment)

    part_seen : (after : List DiskCounts) (u : World) (p : Part) (c : Choice) → Allowed u p after c → AllLast o u → IsSound u → Down u → In (line.LastAborted tid serial reason moment) (part_effect u p c).lines → Goal
    part_seen after u p c allowed last sound known i = go (view u p)
      where
        go : View u p → Goal
        go (Fixed answer ends kind is) = absurd (subst (λ (e : PartEffect). In (line.LastAborted tid serial reason moment) e.lines) (is c) i)
        go (Doing other t n named found does may) =
            let r = task_seen o u other n t c (λ cause. RoseAt u other cause after) last sound found (may after c allowed) (subst (λ (e : PartEffect). In (line.LastAborted tid serial reason moment) e.lines) (does c) i) in
            elim r.has [ inl has ↦ inl (known n (subst (λ y. find_node y u.nodes ≡ Some n) r.home found) r.down has) | inr was ↦ inr was ]

    -- with which it goes on
    goes_down : (u : World) (p : Part) (c : Choice) → IsSettling p → (part_effect u p c).ends ≡ false → Down u → Down (part_effect u p c).world
    goes_down u p c ok on known m is down has = go (view u p)
      where
        go : View u p → Known
        go (Fixed answer ends kind fixed) = known m (subst (λ (e : PartEffect). find_node serial.node e.world.nodes ≡ Some m) (fixed c) is) down has
        go (Doing other t n named found does may) = at (changed other serial.node n u.nodes (task_effect u.shared (stops_at other u) n t c).node m (effect_name u.shared (stops_at other u) n t c) found (subst (λ (e : PartEffect). find_node serial.node e.world.nodes ≡ Some m) (does c) is))
          where
            at : Changed other serial.node n u.nodes (task_effect u.shared (stops_at other u) n t c).node m → Known
            at (Beside apart there) = known m there down has
            at (Here same there) = absurd (both_ways m.up down (ap (λ (k : Node). k.up) there ∙ settle_up u.shared (stops_at other u) n t c (settle_task u p other t ok named) (sym (ap (λ (e : PartEffect). e.ends) (does c)) ∙ on)))

    pub settle_seen : (w v : World) (lines : List Line) → (step : Step w Settle lines v) → AllLast o w → IsSound w → Down w → In (line.LastAborted tid serial reason moment) step.events → Goal
    settle_seen w v lines step last sound known i = phases_fold v.disks IsSettling (λ g. Unit {0}) (λ u rest a x. AllLast o u → IsSound u → Down u → In (line.LastAborted tid serial reason moment) rest → Goal)
        (λ u g q last sound known j. absurd j)
        (λ u p c ok allowed ends last sound known j. part_seen v.disks u p c allowed last sound known j)
        (λ u p c ok allowed on. (
          tt,
          λ rest a x more last sound known j. elim (in_append (line.LastAborted tid serial reason moment) (part_effect u p c).lines rest j) [
            | inl k ↦ part_seen v.disks u p c allowed last sound known k
            | inr k ↦ more (part_lasts o u p c last).0 (part_sound u p c v.disks allowed sound) (goes_down u p c ok on known) k
          ],
        ))
        (phases_of Settle) each_settling (begun_with Settle w) line.Normal step.events step.answer step.world tt step.does (begins_last o Settle w last) (begins_sound Settle w sound) known i
