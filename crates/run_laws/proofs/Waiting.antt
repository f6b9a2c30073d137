-- A node that waits for the boot that tells again how a branch ended.
use Rattle.std.proofs.Common.{◌≡◌, ℕ, List, [], ◌∷◌, ◌++◌, inl, inr, true, false, ◌&&◌, Option, Some, None, refl, sym, ◌∙◌, ap, subst}
use Rattle.std.specs.List.{list_any}
use Rattle.std.specs.Str.{bytes_eq}
use Rattle.std.proofs.lemmas.Bool.{both_ways}
use Rattle.std.proofs.lemmas.List.{append_assoc}
use Rattle.std.proofs.lemmas.Slice.Eq.{bytes_eq-Decides}
use Rattle.vms_model.specs.Ids.{Id}
use Rattle.run_said.specs.transcript_model.Lines as line
use Rattle.run_said.specs.transcript_model.Lines.{Line, Cause}
use Rattle.run_said.specs.script_model.Statements.{Statement, At, Settle, Deliver, LinkDown, Reading, Blank, Says, Bad}
use Rattle.run_said.specs.script_model.Grammar.{reading}
use Rattle.commit_protocol.specs.World.{In}
use Rattle.commit_protocol.proofs.Lists.{in_left}
use Rattle.run_said.specs.run_model.World.{World, Node, Act, DiskCounts, Settlement, acted, find_node, opened}
use Rattle.run_said.specs.run_model.Answers.{task_service}
use Rattle.run_said.specs.run_model.Steps.{Choice, task_effect}
use Rattle.run_said.specs.run_model.Statements.{Part, PartEffect, Begins, Phases, Step, Allowed, RoseAt, begun_with, part_effect, phases_of, refused_at_once, stops_at}
use Rattle.run_said.specs.run_model.Transcript.{Entry, Legal, AreOpening, Turn}
use Rattle.run_said.proofs.run_model.NodeLists.{some_is}
use Rattle.run_said.proofs.run_model.PartTasks.{View, Doing, Fixed, view}
use Rattle.run_said.proofs.run_model.Refusing.{each_phase}
use Rattle.run_said.proofs.run_model.TaskLemmas.{effect_name}
use Rattle.run_laws.specs.Promises.{NoneCamePast, came_past, commitment, is_of_boot}
use Rattle.run_laws.proofs.Deciding.{in_any, in_split}
use Rattle.run_laws.proofs.EndFalls.{IsLastOf}
use Rattle.run_laws.proofs.FirstBranch.{IsFirst}
use Rattle.run_laws.proofs.Keeping.{Kept, all_take, any_effect}
use Rattle.run_laws.proofs.LastBoots.{lasts_hold}
use Rattle.run_laws.proofs.Paths.{begins_used, part_used}
use Rattle.run_laws.proofs.Retold.{kept_more, retold, retold_append, retold_from, retold_keeps, retold_on, retold_stays}
use Rattle.run_laws.proofs.SoundWorlds.{Changed, Here, Beside, IsSound, Tracked, begins_sound, changed, part_sound, sound_node, unused}
use Rattle.run_laws.proofs.Walking.{Walks, phases_walk, walk_tells}

abbrev Any : Part → Type 0
Any p = Unit {0}

module _ (x : Id) where
  -- what is known of the branch in a world in which it is gone, where these settlements were told again
  pub record Waits (a : List Settlement) (w : World) : Type 0 where
    pub sound : IsSound w
    pub used : w.shared.in_use ≡ true
    pub tracked : Tracked (retold x) (retold_keeps x) x.node a w

  pub part_waits : (a : List Settlement) (w : World) (p : Part) (c : Choice) (after : List DiskCounts) → Allowed w p after c → Waits a w → Waits (retold_on (part_effect w p c).lines a) (part_effect w p c).world
  part_waits a w p c after allowed h = record { sound = part_sound w p c after allowed h.sound; used = part_used w p c h.used; tracked = go (view w p) }
    where
      go : View w p → Tracked (retold x) (retold_keeps x) x.node (retold_on (part_effect w p c).lines a) (part_effect w p c).world
      go (Fixed answer ends kind is) = subst (λ (y : PartEffect). Tracked (retold x) (retold_keeps x) x.node (retold_on y.lines a) y.world) (sym (is c)) h.tracked
      go (Doing other task n named found does may) =
          let e = task_effect w.shared (stops_at other w) n task c in
          subst (λ (y : PartEffect). Tracked (retold x) (retold_keeps x) x.node (retold_on y.lines a) y.world) (sym (does c)) (λ m is. at m (changed other x.node n w.nodes e.node m (effect_name w.shared (stops_at other w) n task c) found is))
        where
          at : (m : Node) → Changed other x.node n w.nodes (task_effect w.shared (stops_at other w) n task c).node m → Kept (retold x) (retold_keeps x) (retold_on (task_effect w.shared (stops_at other w) n task c).lines a) m
          at m (Here same is) =
              let here : find_node x.node w.nodes ≡ Some n = subst (λ y. find_node y w.nodes ≡ Some n) (sym same) found in
              let known = sound_node w h.sound other n found in
              subst (Kept (retold x) (retold_keeps x) (retold_on (task_effect w.shared (stops_at other w) n task c).lines a)) (sym is)
              (any_effect (retold x) (retold_keeps x) w.shared (stops_at other w) n a known.kept (h.tracked n here) (unused w.shared n known) (λ off slots journal y none. absurd (both_ways w.shared.in_use off h.used)) task
              (λ off. all_take (retold x) (λ o. tt) ((task_service task).rows w.shared n)) (λ on. tt) c (λ cause. RoseAt w other cause after) (may after c allowed))
          at m (Beside apart is) = kept_more x a (retold_on (task_effect w.shared (stops_at other w) n task c).lines a) m (λ s e i. retold_stays (task_effect w.shared (stops_at other w) n task c).lines a s i) (h.tracked m is)

  pub begins_waits : (a : List Settlement) (s : Statement) (w : World) → Waits a w → Waits a (begun_with s w)
  begins_waits a s w h = record { sound = begins_sound s w h.sound; used = begins_used s w h.used; tracked = tracked s }
    where
      tracked : (s : Statement) → Tracked (retold x) (retold_keeps x) x.node a (begun_with s w)
      tracked Settle = h.tracked
      tracked (At other request) = h.tracked
      tracked (Deliver number) = h.tracked
      tracked (LinkDown y z) = h.tracked

  disks_waits : (a : List Settlement) (w : World) (disks : List DiskCounts) → Waits a w → Waits a (record w { disks = disks })
  disks_waits a w disks h = record {
    sound = record { kept = h.sound.kept; moments = h.sound.moments; once = h.sound.once };
    used = h.used;
    tracked = h.tracked;
  }

  -- what was told of others may be forgotten
  pub waits_more : (a b : List Settlement) (w : World) → ((s : Settlement) → s.serial ≡ x → In s a → In s b) → Waits a w → Waits b w
  waits_more a b w into h = record { sound = h.sound; used = h.used; tracked = λ n f. kept_more x a b n into (h.tracked n f) }

  -- Statements.

  pub walk_waits : (disks : List DiskCounts) (xs : List (Part × Choice)) (a : List Settlement) (w : World) (lines : List Line) (v : World) (Ok : Part → Type 0) → Walks Ok disks xs w lines v → Waits a w → Waits (retold_on lines a) v
  walk_waits disks xs a w lines v Ok walk h = walk_tells Ok disks (List Settlement) retold_on (λ b. refl) retold_append Waits (λ b u p c ok allowed g. part_waits b u p c disks allowed g) xs a w lines v walk h

  pub step_waits : (w v : World) (s : Statement) (lines : List Line) (a : List Settlement) → (step : Step w s lines v) → Waits a w → Waits (retold_on step.events a) v
  step_waits w v s lines a step h = subst (Waits (retold_on step.events a)) (sym step.goes) (disks_waits (retold_on step.events a) step.world v.disks (go (refused_at_once w s) step.does))
    where
      go : (o : Option Line) → Begins o (Phases (phases_of s) v.disks (begun_with s w) line.Normal) w step.events step.answer step.world → Waits (retold_on step.events a) step.world
      go (Some refusal) d = subst (λ ls. Waits (retold_on ls a) step.world) (sym d.0) (subst (Waits a) (sym d.2) h)
      go None d =
          let r = phases_walk Any v.disks (phases_of s) (each_phase s) (begun_with s w) line.Normal step.events step.answer step.world d in
          walk_waits v.disks r.0 a (begun_with s w) step.events step.world Any r.1 (begins_waits a s w h)

  -- where no line tells of the branch
  abbrev pub IsQuiet : List Line → Type 0
  IsQuiet lines = (t : Id) (moment : ℕ) → In (line.LastCommitted t x moment) lines → ⊥

  pub turn_waits : (w v : World) (r : Reading) (lines : List Line) → IsQuiet lines → Turn w r lines v → Waits [] w → Waits [] v
  turn_waits w v Blank lines quiet turn h = subst (Waits []) (sym turn.1) h
  turn_waits w v (Says s) lines quiet turn h = waits_more (retold_on turn.events []) [] v none (step_waits w v s lines [] turn h)
    where
      none : (s : Settlement) → s.serial ≡ x → In s (retold_on turn.events []) → In s []
      none s e i = elim (retold_from turn.events [] s i) [
        | inl empty ↦ empty
        | inr j ↦ absurd (quiet s.tid s.moment (subst (λ y. In (line.LastCommitted s.tid y s.moment) lines) e (subst (In (line.LastCommitted s.tid s.serial s.moment)) (sym turn.shows) (in_left _ turn.events (turn.answer ∷ []) j))))
      ]
  turn_waits w v (Bad column) lines quiet turn h = absurd turn

  -- Entries none of which came past the boot.
  module _ (nodes : List Node) (disks : List DiskCounts) (es : List Entry) (closing : World) (opening : AreOpening nodes) (legal : Legal (opened nodes disks) es closing) where
    quiet_so : (after before : List Entry) (e : Entry) → es ≡ after ++ e ∷ before → came_past x.node (reading e.source.text) e.lines ≡ false → IsQuiet e.lines
    quiet_so after before e stands off t moment i =
        let s = in_split (line.LastCommitted t x moment) e.lines i in
        let r = lasts_hold nodes disks es closing opening legal before (reading e.source.text) s.0 s.1 (line.LastCommitted t x moment) (commitment t x moment) (record { after = after; entry = e; stands = stands; read = refl; shown = s.2 }) refl in
        elim r.0 [
          | inl boot ↦ both_ways (came_past x.node (reading e.source.text) e.lines) off (ap (λ y. came_past x.node y e.lines) boot ∙ (λ j. same j && any j))
          | inr settle ↦ both_ways (came_past x.node (reading e.source.text) e.lines) off (ap (λ y. came_past x.node y e.lines) settle ∙ any)
        ]
      where
        same : bytes_eq x.node x.node ≡ true
        same = (bytes_eq-Decides x.node x.node).1 refl

        any : list_any (is_of_boot x.node) e.lines ≡ true
        any = in_any (is_of_boot x.node) (line.LastCommitted t x moment) e.lines i same

    pub between_waits : (ys later before : List Entry) → es ≡ later ++ (ys ++ before) → NoneCamePast x.node ys → (v w : World) → Legal v ys w → Waits [] v → Waits [] w
    between_waits [] later before stands none v w path h = subst (Waits []) (sym path) h
    between_waits (e ∷ ys) later before stands none v w path h =
        let mid = between_waits ys (later ++ e ∷ []) before (stands ∙ sym (append_assoc later (e ∷ []) (ys ++ before))) none.1 v path.0 path.1 h in
        turn_waits path.0 w (reading e.source.text) e.lines (quiet_so later (ys ++ before) e stands none.0) path.2 mid

  -- A node that is down, and whose last settlement tells all.
  pub waits_from : (v : World) (m : Node) → IsFirst x v → find_node x.node v.nodes ≡ Some m → m.up ≡ false → IsLastOf x m → ((act : Act) → m.under_way ≡ Some act → IsLastOf x (acted act m)) → Waits [] v
  waits_from v m h found down last way = record {
    sound = h.sound;
    used = h.used;
    tracked = λ n f. subst (Kept (retold x) (retold_keeps x) []) (some_is m n (sym found ∙ f)) kept;
  }
    where
      kept : Kept (retold x) (retold_keeps x) [] m
      kept = record {
        disk = (record { of = (h.tracked m found).disk.of; prepared = (h.tracked m found).disk.prepared; commits = λ s i e c. tt }, λ s i e c. inl (last s i e c));
        way = λ act is. (record { of = ((h.tracked m found).way act is).of; prepared = ((h.tracked m found).way act is).prepared; commits = λ s i e c. tt }, λ s i e c. inl (way act is s i e c));
        runs = λ up. absurd (both_ways m.up down up);
      }
