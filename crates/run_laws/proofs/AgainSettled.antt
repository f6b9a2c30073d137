-- A settling that boots a node tells again how a branch ended that is gone.
use Rattle.std.proofs.Common.{◌≡◌, ℕ, List, [], ◌∷◌, ◌++◌, inl, inr, true, false, Option, Some, None, refl, sym, ◌∙◌, ap, subst}
use Rattle.std.specs.List.{list_any}
use Rattle.std.specs.Str.{bytes_eq}
use Rattle.std.proofs.lemmas.Bool.{both_ways, cases_Bool, false_from_ne_true}
use Rattle.std.proofs.lemmas.Slice.Eq.{bytes_eq-Decides}
use Rattle.vms_model.specs.Ids.{Id}
use Rattle.run_said.specs.transcript_model.Lines as line
use Rattle.run_said.specs.transcript_model.Lines.{Line, Cause}
use Rattle.run_said.specs.script_model.Statements.{Settle}
use Rattle.commit_protocol.specs.World.{In}
use Rattle.commit_protocol.proofs.Lists.{in_left, in_right}
use Rattle.run_said.specs.run_model.World.{World, Shared, Node, DiskCounts, Settlement, find_node, powered}
use Rattle.run_said.specs.run_model.Answers.{Task, Hears, LosesLink, Restarts, RunsDown, Serves, Takes, Ticks, refused_before_reading, task_service}
use Rattle.run_said.specs.run_model.Steps.{Choice, Whole, WithoutMemory, Unpowered, Cut, TaskAllowed, TaskEffect, begun, task_effect, whole}
use Rattle.run_said.specs.run_model.Statements.{Part, PartEffect, Step, Allowed, RoseAt, begun_with, part_effect, phases_of, put_into, stops_at}
use Rattle.run_said.specs.run_model.StepLaws.{is_refusal}
use Rattle.run_said.proofs.run_model.CauseLemmas.{refuses_first, refuses_then}
use Rattle.run_said.proofs.run_model.NodeLists.{found_name, put_node}
use Rattle.run_said.proofs.run_model.PartLemmas.{phases_fold}
use Rattle.run_said.proofs.run_model.PartTasks.{View, Doing, Fixed, view}
use Rattle.run_said.proofs.run_model.TaskLemmas as tasks
use Rattle.run_said.proofs.run_model.TaskLemmas.{First, Failing, Lacking, Late, Success, effect_name, outcome}
use Rattle.run_laws.specs.Promises.{is_of_boot, settlement_in}
use Rattle.run_laws.proofs.Again.{IsGoneSo, IsIn, cut_gone, gone_kept, gone_so_disks, gone_so_part, gone_up, refusal_apart}
use Rattle.run_laws.proofs.Deciding.{BootedAt, any_in, part_booted}
use Rattle.run_laws.proofs.OwnLines.{line_in, task_owns}
use Rattle.run_laws.proofs.PreparedLines.{part_prepared, thin_answer, thin_done, thin_silent, thin_uncounted}
use Rattle.run_laws.proofs.Retold.{retold_from, retold_on}
use Rattle.run_laws.proofs.ShownSettled.{in_append}
use Rattle.run_laws.proofs.SoundWorlds.{sound_node}
use Rattle.run_laws.proofs.ToldParts.{IsThinning, IsThinPart, settle_phases}
use Rattle.run_laws.proofs.Waiting.{Waits, begins_waits, part_waits, walk_waits}
use Rattle.run_laws.proofs.Walking.{Sighted, phases_walk, sighted, walk_keeps}

-- no answer of a settling is a line of a boot
off_refusal : (node : List ℕ) (l : Line) → is_refusal l ≡ true → is_of_boot node l ≡ false
off_refusal node l h = false_from_ne_true (is_of_boot node l) (λ on. refusal_apart node l h on)

outcome_off : (node : List ℕ) (s : Shared) (stops : ℕ) (n : Node) (t : Task) (rises : Cause → Type 0) (e : TaskEffect) → IsThinning t → tasks.Outcome s stops n t rises e → is_of_boot node e.answer ≡ false
outcome_off node s stops n t rises e h (First refusal first f) = ap (λ (y : TaskEffect). is_of_boot node y.answer) f ∙ off_refusal node refusal ((refuses_first s n t).says refusal first)
outcome_off node s stops n t rises e h (Late outturn refusal may first late f) = ap (λ (y : TaskEffect). is_of_boot node y.answer) f ∙ off_refusal node refusal ((refuses_then s _ t).says refusal late)
outcome_off node s stops n t rises e h (Success outturn may first late f) = ap (λ (y : TaskEffect). is_of_boot node y.answer) f ∙ ap (is_of_boot node) (thin_answer s _ t h)
outcome_off node s stops n t rises e h (Lacking first takes f) = ap (λ (y : TaskEffect). is_of_boot node y.answer) f
outcome_off node s stops n t rises e h (Failing cause shown true first rises_so shows down answers ends) = ap (is_of_boot node) answers
outcome_off node s stops n t rises e h (Failing cause shown false first rises_so shows down answers ends) = ap (is_of_boot node) answers

part_off : (node : List ℕ) (u : World) (p : Part) (c : Choice) (after : List DiskCounts) → IsThinPart p → Allowed u p after c → is_of_boot node (part_effect u p c).answer ≡ false
part_off node u p c after thin allowed = go (view u p)
  where
    go : View u p → is_of_boot node (part_effect u p c).answer ≡ false
    go (Doing other t n named found does may) = ap (λ (y : PartEffect). is_of_boot node y.answer) (does c) ∙ outcome_off node u.shared (stops_at other u) n t (λ cause. RoseAt u other cause after) _ (thin_done u p other t thin named) (outcome u.shared (stops_at other u) n t (λ cause. RoseAt u other cause after) c (may after c allowed))
    go (Fixed answer ends (inl h) is) = ap (λ (y : PartEffect). is_of_boot node y.answer) (is c) ∙ off_refusal node answer h
    go (Fixed answer ends (inr h) is) = ap (λ (y : PartEffect). is_of_boot node y.answer) (is c) ∙ ap (is_of_boot node) h

settle_off : (node : List ℕ) (w v : World) (lines : List Line) → (step : Step w Settle lines v) → is_of_boot node step.answer ≡ false
settle_off node w v lines step = phases_fold v.disks IsThinPart (λ given. is_of_boot node given ≡ false) (λ u rest answer y. is_of_boot node answer ≡ false)
    (λ u given q. q)
    (λ u p c ok allowed ends. part_off node u p c v.disks ok allowed)
    (λ u p c ok allowed on. (part_off node u p c v.disks ok allowed, λ rest answer y more. more))
    (phases_of Settle) settle_phases (begun_with Settle w) line.Normal step.events step.answer step.world refl step.does

same_bytes : (a b : List ℕ) → bytes_eq a b ≡ true → a ≡ b
same_bytes a b e = (bytes_eq-Decides a b).0 e

module _ (x : Id) where
  module _ (lines : List Line) (u : World) (p : Part) (c : Choice) (disks : List DiskCounts) (a : List Settlement) (h : Waits x a u) (thin : IsThinPart p) (allowed : Allowed u p disks c) (into : IsIn x a lines) (shown : (l : Line) → In l (part_effect u p c).lines → In l lines) where
    into_more : IsIn x (retold_on (part_effect u p c).lines a) lines
    into_more s e i = elim (retold_from (part_effect u p c).lines a _ i) [ inl j ↦ into s e j | inr j ↦ shown (line.LastCommitted s.tid s.serial s.moment) j ]

    after : Waits x (retold_on (part_effect u p c).lines a) (part_effect u p c).world
    after = part_waits x a u p c disks allowed h

    -- its node came up
    booted_gone : BootedAt u p c x.node → IsGoneSo x lines (part_effect u p c).world
    booted_gone b =
        let there : find_node x.node (part_effect u p c).world.nodes ≡ Some b.e.node = ap (λ (y : PartEffect). find_node x.node y.world.nodes) b.world ∙ put_node x.node b.n b.e.node u.nodes b.named b.found in
        gone_up x (retold_on (part_effect u p c).lines a) lines (part_effect u p c).world b.e.node into_more after there (ap (λ (y : Node). y.up) b.booted.node)

    -- a restart of its node that shows such a line
    restart_gone : (n : Node) → find_node x.node u.nodes ≡ Some n → (c : Choice) → TaskAllowed u.shared (stops_at x.node u) n Restarts (λ cause. RoseAt u x.node cause disks) c → (v : World) → find_node x.node v.nodes ≡ Some (task_effect u.shared (stops_at x.node u) n Restarts c).node → Waits x (retold_on (task_effect u.shared (stops_at x.node u) n Restarts c).lines a) v →
        ((l : Line) → In l (task_effect u.shared (stops_at x.node u) n Restarts c).lines → In l lines) → (l : Line) → In l (task_effect u.shared (stops_at x.node u) n Restarts c).lines → is_of_boot x.node l ≡ true → IsGoneSo x lines v
    restart_gone n found c may v there waits shown_here l i on = elim (cases_Bool (task_effect u.shared (stops_at x.node u) n Restarts c).node.up) [
      | inl up ↦ gone_up x (retold_on (task_effect u.shared (stops_at x.node u) n Restarts c).lines a) lines v (task_effect u.shared (stops_at x.node u) n Restarts c).node (λ s e j. elim (retold_from (task_effect u.shared (stops_at x.node u) n Restarts c).lines a _ j) [ inl k ↦ into s e k | inr k ↦ shown_here (line.LastCommitted s.tid s.serial s.moment) k ]) waits there up
      | inr down ↦ gone_kept x v (task_effect u.shared (stops_at x.node u) n Restarts c).node waits.sound waits.used there lines (by c may shown_here i down)
    ]
      where
        by : (c : Choice) → TaskAllowed u.shared (stops_at x.node u) n Restarts (λ cause. RoseAt u x.node cause disks) c → ((l : Line) → In l (task_effect u.shared (stops_at x.node u) n Restarts c).lines → In l lines) → In l (task_effect u.shared (stops_at x.node u) n Restarts c).lines →
            (task_effect u.shared (stops_at x.node u) n Restarts c).node.up ≡ false → Rattle.run_laws.proofs.Keeping.Kept (Rattle.run_laws.proofs.Again.gone_so x lines) (Rattle.run_laws.proofs.Again.gone_so_keeps x lines) tt (task_effect u.shared (stops_at x.node u) n Restarts c).node
        by (Whole o) may shown_here i down = absurd (first_so (refused_before_reading u.shared n (task_service Restarts)) i down)
          where
            late_so : (q : Option Line) → In l (begun u.shared (powered o (stops_at x.node u) n) (task_service Restarts) q).lines → (begun u.shared (powered o (stops_at x.node u) n) (task_service Restarts) q).node.up ≡ false → ⊥
            late_so (Some refusal) k d = k
            late_so None k d = let no : ⊥ = cc in no

            first_so : (q : Option Line) → In l (whole u.shared n (powered o (stops_at x.node u) n) (task_service Restarts) q).lines → (whole u.shared n (powered o (stops_at x.node u) n) (task_service Restarts) q).node.up ≡ false → ⊥
            first_so (Some refusal) k d = k
            first_so None k d = late_so ((task_service Restarts).refused_after_reading u.shared (powered o (stops_at x.node u) n)) k d
        by WithoutMemory may shown_here i down = absurd i
        by Unpowered may shown_here i down = absurd (elim i [ inl same ↦ both_ways (is_of_boot x.node l) (ap (is_of_boot x.node) same) on | inr none ↦ none ])
        by (Cut o j b cause) may shown_here i down = cut_gone x u.shared (stops_at x.node u) n o a lines (sound_node u h.sound x.node n found).kept may.2 (h.tracked n found) into ((task_service Restarts).refused_after_reading u.shared (powered o (stops_at x.node u) n)) j b cause l i on
            (λ m k. shown_here m (in_left m _ (line.Down (powered o (stops_at x.node u) n).name cause ∷ []) k))

    -- a line of its node
    own_gone : (l : Line) (s : Settlement) → In l (part_effect u p c).lines → is_of_boot x.node l ≡ true → settlement_in l ≡ Some s → s.serial.node ≡ x.node → IsGoneSo x lines (part_effect u p c).world
    own_gone l s i on is home = go (view u p)
      where
        go : View u p → IsGoneSo x lines (part_effect u p c).world
        go (Fixed answer ends kind fixed) = absurd (subst (λ (e : PartEffect). In l e.lines) (fixed c) i)
        go (Doing other t n named found does may) = at other same n t found (does c) (may disks c allowed) (thin_done u p other t thin named) j
          where
            j : In l (task_effect u.shared (stops_at other u) n t c).lines
            j = subst (λ (e : PartEffect). In l e.lines) (does c) i

            same : other ≡ x.node
            same = sym (sym home ∙ task_owns u.shared (stops_at other u) n t c (λ cause. RoseAt u other cause disks) (sound_node u h.sound other n found) (may disks c allowed) s (line_in (task_effect u.shared (stops_at other u) n t c).lines l s [] j is) ∙ found_name other u.nodes n found)

            at : (name : List ℕ) → name ≡ x.node → (n : Node) (t : Task) → find_node name u.nodes ≡ Some n → part_effect u p c ≡ put_into u name (task_effect u.shared (stops_at name u) n t c) → TaskAllowed u.shared (stops_at name u) n t (λ cause. RoseAt u name cause disks) c → IsThinning t → In l (task_effect u.shared (stops_at name u) n t c).lines → IsGoneSo x lines (part_effect u p c).world
            at name same n t found does may kind j = here n t (subst (λ y. find_node y u.nodes ≡ Some n) same found) (subst (λ y. part_effect u p c ≡ put_into u y (task_effect u.shared (stops_at y u) n t c)) same does) (subst (λ y. TaskAllowed u.shared (stops_at y u) n t (λ cause. RoseAt u y cause disks) c) same may) kind (subst (λ y. In l (task_effect u.shared (stops_at y u) n t c).lines) same j)
              where
                here : (n : Node) (t : Task) → find_node x.node u.nodes ≡ Some n → part_effect u p c ≡ put_into u x.node (task_effect u.shared (stops_at x.node u) n t c) → TaskAllowed u.shared (stops_at x.node u) n t (λ cause. RoseAt u x.node cause disks) c → IsThinning t → In l (task_effect u.shared (stops_at x.node u) n t c).lines → IsGoneSo x lines (part_effect u p c).world
                here n t found does may kind j = elim (cases_Bool n.up) [
                  | inl up ↦ gone_so_part x lines disks u p c allowed (gone_up x a lines u n into h found up)
                  | inr down ↦ of_task t down kind does may j
                ]
                  where
                    of_restart : part_effect u p c ≡ put_into u x.node (task_effect u.shared (stops_at x.node u) n Restarts c) → TaskAllowed u.shared (stops_at x.node u) n Restarts (λ cause. RoseAt u x.node cause disks) c → In l (task_effect u.shared (stops_at x.node u) n Restarts c).lines → IsGoneSo x lines (part_effect u p c).world
                    of_restart does may j = restart_gone n found c may (part_effect u p c).world
                        (ap (λ (y : PartEffect). find_node x.node y.world.nodes) does ∙ put_node x.node n (task_effect u.shared (stops_at x.node u) n Restarts c).node u.nodes (effect_name u.shared (stops_at x.node u) n Restarts c) found)
                        (subst (λ ls. Waits x (retold_on ls a) (part_effect u p c).world) (ap (λ (y : PartEffect). y.lines) does) after) (λ m k. shown m (subst (In m) (ap (λ (y : PartEffect). y.lines) (sym does)) k)) l j on

                    none : (t : Task) → IsThinning t → (t ≡ Restarts → ⊥) → n.up ≡ false → TaskAllowed u.shared (stops_at x.node u) n t (λ cause. RoseAt u x.node cause disks) c → In l (task_effect u.shared (stops_at x.node u) n t c).lines → ⊥
                    none t kind not_it down may j = thin_silent u.shared (stops_at x.node u) n t c (λ cause. RoseAt u x.node cause disks) l kind not_it down may j

                    of_task : (t : Task) → n.up ≡ false → IsThinning t → part_effect u p c ≡ put_into u x.node (task_effect u.shared (stops_at x.node u) n t c) → TaskAllowed u.shared (stops_at x.node u) n t (λ cause. RoseAt u x.node cause disks) c → In l (task_effect u.shared (stops_at x.node u) n t c).lines → IsGoneSo x lines (part_effect u p c).world
                    of_task Restarts down kind does may j = of_restart does may j
                    of_task Ticks down kind does may j = absurd (none Ticks kind (λ e. let no : ⊥ = cc in no) down may j)
                    of_task RunsDown down kind does may j = absurd (none RunsDown kind (λ e. let no : ⊥ = cc in no) down may j)
                    of_task (LosesLink o) down kind does may j = absurd (none (LosesLink o) kind (λ e. let no : ⊥ = cc in no) down may j)
                    of_task (Hears m) down kind does may j = absurd (none (Hears m) kind (λ e. let no : ⊥ = cc in no) down may j)
                    of_task (Serves r) down kind does may j = let no : ⊥ = cc in absurd no
                    of_task (Takes m) down kind does may j = let no : ⊥ = cc in absurd no

    part_gone : (l : Line) → In l (part_effect u p c).lines → is_of_boot x.node l ≡ true → IsGoneSo x lines (part_effect u p c).world
    part_gone (line.LastCommitted t s moment) i on = own_gone (line.LastCommitted t s moment) _ i on refl (same_bytes s.node x.node on)
    part_gone (line.LastAborted t s reason moment) i on = own_gone (line.LastAborted t s reason moment) _ i on refl (same_bytes s.node x.node on)
    part_gone (line.Aborted t s reason moment) i on = own_gone (line.Aborted t s reason moment) _ i on refl (same_bytes s.node x.node on)
    part_gone (line.Prepared t s) i on =
        let b = part_prepared u p c disks t s h.sound thin allowed i in
        booted_gone (part_booted u p c disks x.node b.0 thin allowed (subst (λ name. In (line.Booted name b.0) (part_effect u p c).lines) (same_bytes s.node x.node on) b.1))
    part_gone (line.Booted other count) i on = booted_gone (part_booted u p c disks x.node count thin allowed (subst (λ name. In (line.Booted name count) (part_effect u p c).lines) (same_bytes other x.node on) i))
    part_gone (line.NormalCount count) i on = absurd (uncounted (view u p))
      where
        uncounted : View u p → ⊥
        uncounted (Fixed answer ends kind is) = subst (λ (e : PartEffect). In (line.NormalCount count) e.lines) (is c) i
        uncounted (Doing other t n named found does may) = thin_uncounted u.shared (stops_at other u) n t c count (thin_done u p other t thin named) (subst (λ (e : PartEffect). In (line.NormalCount count) e.lines) (does c) i)
    part_gone _ i on = let no : ⊥ = cc in absurd no

  pub settle_gone : (w v : World) (lines : List Line) → Waits x [] w → Step w Settle lines v → list_any (is_of_boot x.node) lines ≡ true → IsGoneSo x lines v
  settle_gone w v lines h step past = elim (in_append hit.0 step.events (step.answer ∷ []) (subst (In hit.0) step.shows hit.1)) [
    | inr last ↦ elim last [ inl same ↦ absurd (both_ways (is_of_boot x.node hit.0) (ap (is_of_boot x.node) same ∙ settle_off x.node w v lines step) hit.2) | inr none ↦ absurd none ]
    | inl i ↦ (let walk = phases_walk IsThinPart v.disks (phases_of Settle) settle_phases (begun_with Settle w) line.Normal step.events step.answer step.world step.does in
        at (sighted IsThinPart v.disks walk.0 (begun_with Settle w) step.events step.world hit.0 walk.1 i))
  ]
    where
      hit : (l : Line) × In l lines × (is_of_boot x.node l ≡ true)
      hit = any_in (is_of_boot x.node) lines past

      in_lines : (l : Line) → In l step.events → In l lines
      in_lines l i = subst (In l) (sym step.shows) (in_left l step.events (step.answer ∷ []) i)

      at : Sighted IsThinPart v.disks (begun_with Settle w) step.events step.world hit.0 → IsGoneSo x lines v
      at sg =
          let waits = walk_waits x v.disks sg.front [] (begun_with Settle w) sg.before sg.there IsThinPart sg.first (begins_waits x [] Settle w h) in
          let ls2 = (part_effect sg.there sg.part sg.choice).lines in
          let into : IsIn x (retold_on sg.before []) lines = λ s e i. elim (retold_from sg.before [] _ i) [ inl none ↦ absurd none | inr j ↦ in_lines (line.LastCommitted s.tid s.serial s.moment) (subst (In (line.LastCommitted s.tid s.serial s.moment)) (sym sg.is) (in_left _ sg.before (ls2 ++ sg.rest) j)) ] in
          let shown : (l : Line) → In l (part_effect sg.there sg.part sg.choice).lines → In l lines = λ l i. in_lines l (subst (In l) (sym sg.is) (in_right l sg.before (ls2 ++ sg.rest) (in_left l ls2 sg.rest i))) in
          let gone = part_gone lines sg.there sg.part sg.choice v.disks (retold_on sg.before []) waits sg.ok sg.allowed into shown hit.0 sg.shown hit.2 in
          let rest = walk_keeps IsThinPart v.disks (IsGoneSo x lines) (λ u p c ok allowed g. gone_so_part x lines v.disks u p c allowed g) sg.back (part_effect sg.there sg.part sg.choice).world sg.rest step.world sg.then gone in
          subst (IsGoneSo x lines) (sym step.goes) (gone_so_disks x lines step.world v.disks rest)
