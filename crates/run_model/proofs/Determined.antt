-- Steps in which no count of a disk rises, and that a transcript of such steps is determined.
use Rattle.std.proofs.Common.{◌≡◌, ℕ, ◌+◌, ◌<◌, ◌⊎◌, List, [], ◌∷◌, ◌++◌, inl, inr, map, length, Bool, true, false, not, Option, Some, None, if◌then◌else◌, refl, sym, ◌∙◌, ap, subst, arith}
use Rattle.std.specs.Str.{bytes_eq}
use Rattle.std.specs.List.{last_or}
use Rattle.std.proofs.lemmas.List.{length-append}
use Rattle.transcript_model.specs.Lines as line
use Rattle.transcript_model.specs.Lines.{Line, Cause, Failed, NoMemory}
use Rattle.transcript_model.specs.Script.{ScriptLine}
use Rattle.script_model.specs.Statements.{Statement, At, Deliver, LinkDown, Settle, Request, Boot, Recover, Clock, Reading, Blank, Says, Bad}
use Rattle.script_model.specs.Grammar.{reading}
use Rattle.run_model.specs.World.{World, Shared, Node, DiskCounts, Act, Boots, Outturn, Lost, Taken, Half, MayTurnOut, aborted_prepared, opened, find_file, find_node, with_node, acted, powered}
use Rattle.run_model.specs.Answers.{Row, Service, Task, Serves, Ticks, Hears, LosesLink, RunsDown, Restarts, task_service, blocks_recovered, refused_before_reading, prepared_lines, powers, spoils, volume_full}
use Rattle.run_model.specs.Steps.{Choice, Whole, WithoutMemory, Unpowered, Cut, TaskEffect, TaskAllowed, task_effect, ready_node, node_after, node_after_rows, lines_of_rows, refused, succeeded, begun, whole, with_unknown_volume}
use Rattle.run_model.specs.Statements.{Part, PartEffect, Parts, Phases, Phase, Onward, Then, Allowed, Begins, Step, NoneFalls, part_effect, put_into, stops_at, RoseAt, phases_of, refused_at_once, begun_with}
use Rattle.run_model.specs.Transcript.{Entry, Legal, Turn as LineTurn, AreOpening}
use Rattle.run_model.specs.StepLaws.{CanRise, IsDetermined, IsTask, TaskAt, task_of, task_of_part, lacked_memory, lacking}
use Rattle.run_model.proofs.NodeLists.{clash, some_is, put_same, none_falls_same, none_falls_on}
use Rattle.run_model.proofs.CauseLemmas as cause
use Rattle.run_model.proofs.CauseLemmas.{says_bootable, is_success, task_succeeds}
use Rattle.run_model.proofs.PartLemmas.{EachPart, EachPhase, Turn, turn, way, phases_fold}
use Rattle.run_model.proofs.PartTasks.{View, Doing, Fixed, view, IsOk, sweep_ok, task_there}
use Rattle.run_model.proofs.Refusing.{each_phase, none_some}
use Rattle.run_model.proofs.Failing.{way_keeps, not_risen}

-- While no count rises, nothing is under way, and it makes no difference how that turns out.

abbrev IsQuiet : List Node → Type 0
IsQuiet [] = Unit {0}
IsQuiet (n ∷ ns) = (n.under_way ≡ None) × IsQuiet ns

quiet_found : (node : List ℕ) (ns : List Node) (n : Node) → IsQuiet ns → find_node node ns ≡ Some n → n.under_way ≡ None
quiet_found node [] n h e = let none : ⊥ = cc in absurd none
quiet_found node (m ∷ ns) n h e = go (bytes_eq node m.name) (quiet_found node ns n h.1) e
  where
    go : (b : Bool) → (find_node node ns ≡ Some n → n.under_way ≡ None) → ◌≡◌ {A = Option Node} (if b then Some m else find_node node ns) (Some n) → n.under_way ≡ None
    go true more k = let same : m ≡ n = cc in subst (λ (x : Node). x.under_way ≡ None) same h.0
    go false more k = more k

quiet_put : (node : List ℕ) (m : Node) (ns : List Node) → m.under_way ≡ None → IsQuiet ns → IsQuiet (with_node node (λ k. m) ns)
quiet_put node m [] e h = tt
quiet_put node m (n ∷ ns) e h = go (bytes_eq node n.name) (quiet_put node m ns e h.1)
  where
    go : (b : Bool) → IsQuiet (with_node node (λ k. m) ns) → IsQuiet (if b then m ∷ ns else n ∷ with_node node (λ k. m) ns)
    go true more = (e, h.1)
    go false more = (h.0, more)

same_powered : (outturn : Outturn) (stops : ℕ) (n : Node) → n.under_way ≡ None → MayTurnOut n outturn → powered outturn stops n ≡ powered Lost stops n
same_powered Lost stops n e may = refl
same_powered Taken stops n e may = go n.under_way e
  where
    go : (o : Option Act) → o ≡ None → powered Taken stops (record n { under_way = o }) ≡ powered Lost stops (record n { under_way = o })
    go None k = refl
    go (Some act) k = let none : ⊥ = cc in absurd none
same_powered (Half standing) stops n e may =
    let none : aborted_prepared None n.durable ≡ Some may.0 = subst (λ o. aborted_prepared o n.durable ≡ Some may.0) e may.1 in
    let no : ⊥ = cc in absurd no

same_ready : (outturn : Outturn) (stops : ℕ) (e : Service) (n : Node) → n.under_way ≡ None → MayTurnOut n outturn → ready_node outturn stops e n ≡ ready_node Lost stops e n
same_ready outturn stops e n quiet may = go (powers e)
  where
    go : (b : Bool) → (if b then with_unknown_volume (spoils e) (powered outturn stops n) else n) ≡ (if b then with_unknown_volume (spoils e) (powered Lost stops n) else n)
    go true = ap (with_unknown_volume (spoils e)) (same_powered outturn stops n quiet may)
    go false = refl

-- What is so done is done whole, or memory is missing.

-- memory is missing for a task
record Lacks (s : Shared) (n : Node) (t : Task) (e : TaskEffect) : Type 0 where
  first : refused_before_reading s n (task_service t) ≡ None
  takes : (task_service t).takes_memory n ≡ true
  is : e ≡ refused s n NoMemory

quiet_choice : (s : Shared) (stops : ℕ) (n : Node) (t : Task) (rises : Cause → Type 0) (c : Choice) → n.under_way ≡ None → ((cause : Cause) → rises cause → ⊥) → TaskAllowed s stops n t rises c →
    (task_effect s stops n t c ≡ task_effect s stops n t (Whole Lost)) ⊎ Lacks s n t (task_effect s stops n t c)
quiet_choice s stops n t rises (Whole outturn) quiet none may = inl (ap (λ ready. whole s n ready (task_service t) (refused_before_reading s n (task_service t))) (same_ready outturn stops (task_service t) n quiet may))
quiet_choice s stops n t rises WithoutMemory quiet none may = inr (record { first = may.0; takes = may.1; is = refl })
quiet_choice s stops n t rises Unpowered quiet none may = absurd (none Failed may.2)
quiet_choice s stops n t rises (Cut outturn done begun cause) quiet none may = absurd (none cause may.4)

-- and nothing is under way behind it
acted_quiet : (act : Act) (n : Node) → n.under_way ≡ None → (acted act n).under_way ≡ None
acted_quiet Boots n e = e
acted_quiet _ n e = e

after_quiet : (o : Option Act) (n : Node) → n.under_way ≡ None → (node_after o n).under_way ≡ None
after_quiet None n e = e
after_quiet (Some act) n e = acted_quiet act n e

rows_quiet : (rs : List Row) (n : Node) → n.under_way ≡ None → (node_after_rows rs n).under_way ≡ None
rows_quiet [] n e = e
rows_quiet (r ∷ rs) n e = rows_quiet rs (node_after r.act n) (after_quiet r.act n e)

spoilt_quiet : (b : Bool) (n : Node) → n.under_way ≡ None → (with_unknown_volume b n).under_way ≡ None
spoilt_quiet true n e = e
spoilt_quiet false n e = e

ready_quiet : (stops : ℕ) (e : Service) (n : Node) → n.under_way ≡ None → (ready_node Lost stops e n).under_way ≡ None
ready_quiet stops e n quiet = go (powers e)
  where
    go : (b : Bool) → (if b then with_unknown_volume (spoils e) (powered Lost stops n) else n).under_way ≡ None
    go true = spoilt_quiet (spoils e) (powered Lost stops n) refl
    go false = quiet

whole_quiet : (s : Shared) (stops : ℕ) (n : Node) (t : Task) → n.under_way ≡ None → (task_effect s stops n t (Whole Lost)).node.under_way ≡ None
whole_quiet s stops n t quiet = go (refused_before_reading s n e)
  where
    e : Service
    e = task_service t

    ready : Node
    ready = ready_node Lost stops e n

    late : (o : Option Line) → (begun s ready e o).node.under_way ≡ None
    late (Some refusal) = ready_quiet stops e n quiet
    late None = after_quiet e.closing (node_after_rows (e.rows s ready) ready) (rows_quiet (e.rows s ready) ready (ready_quiet stops e n quiet))

    go : (o : Option Line) → (whole s n ready e o).node.under_way ≡ None
    go (Some refusal) = quiet
    go None = late (e.refused_after_reading s ready)

-- Where memory may be missing, no other answer says that it was.

abbrev is_memory : Line → Bool
is_memory NoMemory = true
is_memory _ = false

abbrev is_other : Line → Bool
is_other l = not (is_memory l)

late_request : (s : Shared) (n m : Node) (request : Request) → (task_service (Serves request)).takes_memory n ≡ true → cause.Says is_other ((task_service (Serves request)).refused_after_reading s m)
late_request s n m Boot h = says_bootable is_other m refl refl refl (λ condition block. refl)
late_request s n m (Recover file way) h =
    cause.says_case is_other (find_file file m.durable.directory) (λ f. volume_full m (blocks_recovered way f)) _ (λ f. cause.says_if is_other _ _ refl) (cause.says_none is_other)
late_request s n m _ h = let none : ⊥ = cc in absurd none

late_other : (s : Shared) (n m : Node) (t : Task) → (task_service t).takes_memory n ≡ true → cause.Says is_other ((task_service t).refused_after_reading s m)
late_other s n m (Serves request) h = late_request s n m request h
late_other s n m Restarts h = says_bootable is_other m refl refl refl (λ condition block. refl)
late_other s n m _ h = let none : ⊥ = cc in absurd none

success_other : (answer : Line) → is_success answer ≡ true → is_memory answer ≡ false
success_other NoMemory h = let none : ⊥ = cc in absurd none
success_other _ h = refl

not_other : (b : Bool) → not b ≡ true → b ≡ false
not_other true h = let none : ⊥ = cc in absurd none
not_other false h = refl

-- what is done whole where memory may be missing
module _ (s : Shared) (stops : ℕ) (n : Node) (t : Task) (first : refused_before_reading s n (task_service t) ≡ None) (takes : (task_service t).takes_memory n ≡ true) where
  is_begun : task_effect s stops n t (Whole Lost) ≡ begun s (ready_node Lost stops (task_service t) n) (task_service t) ((task_service t).refused_after_reading s (ready_node Lost stops (task_service t) n))
  is_begun = ap (λ o. whole s n (ready_node Lost stops (task_service t) n) (task_service t) o) first

  answered_other : is_memory (task_effect s stops n t (Whole Lost)).answer ≡ false
  answered_other = ap (λ (e : TaskEffect). is_memory e.answer) is_begun ∙ go ((task_service t).refused_after_reading s (ready_node Lost stops (task_service t) n)) refl
    where
      go : (o : Option Line) → (task_service t).refused_after_reading s (ready_node Lost stops (task_service t) n) ≡ o → is_memory (begun s (ready_node Lost stops (task_service t) n) (task_service t) o).answer ≡ false
      go (Some refusal) e = not_other (is_memory refusal) ((late_other s n (ready_node Lost stops (task_service t) n) t takes).says refusal e)
      go None e = success_other _ (task_succeeds s (ready_node Lost stops (task_service t) n) t)

  -- where its statement goes on it was a success
  goes_on_done : (task_effect s stops n t (Whole Lost)).ends ≡ false → (task_effect s stops n t (Whole Lost)).lines ≡ (succeeded s (ready_node Lost stops (task_service t) n) (task_service t)).lines
  goes_on_done on = ap (λ (e : TaskEffect). e.lines) is_begun ∙ go ((task_service t).refused_after_reading s (ready_node Lost stops (task_service t) n)) (sym (ap (λ (e : TaskEffect). e.ends) is_begun) ∙ on)
    where
      go : (o : Option Line) → (begun s (ready_node Lost stops (task_service t) n) (task_service t) o).ends ≡ false → (begun s (ready_node Lost stops (task_service t) n) (task_service t) o).lines ≡ (succeeded s (ready_node Lost stops (task_service t) n) (task_service t)).lines
      go (Some refusal) k = let none : ⊥ = cc in absurd none
      go None k = refl

-- Two runs of one part.

-- memory is missing for a part
record PartLacks (w : World) (p : Part) (c : Choice) : Type 0 where
  node : List ℕ
  task : Task
  n : Node
  named : task_of_part w p ≡ Some (record { node = node; task = task })
  first : refused_before_reading w.shared n (task_service task) ≡ None
  takes : (task_service task).takes_memory n ≡ true
  is : part_effect w p c ≡ put_into w node (refused w.shared n NoMemory)
  other : part_effect w p (Whole Lost) ≡ put_into w node (task_effect w.shared (stops_at node w) n task (Whole Lost))
  leaves : ◌≡◌ {A = World} (put_into w node (refused w.shared n NoMemory)).world w

quiet_part : (w : World) (p : Part) (c : Choice) (after : List DiskCounts) → IsQuiet w.nodes → after ≡ w.disks → CanRise w.disks → Allowed w p after c → (part_effect w p c ≡ part_effect w p (Whole Lost)) ⊎ PartLacks w p c
quiet_part w p c after quiet same low allowed = go (view w p)
  where
    go : View w p → (part_effect w p c ≡ part_effect w p (Whole Lost)) ⊎ PartLacks w p c
    go (Fixed answer ends kind is) = inl (is c ∙ sym (is (Whole Lost)))
    go (Doing node t n named found does may) = elim (quiet_choice w.shared (stops_at node w) n t (λ cause. RoseAt w node cause after) c (quiet_found node w.nodes n quiet found) (λ cause rose. not_risen w node cause after same low rose) (may after c allowed)) [
      | inl e ↦ inl (does c ∙ ap (put_into w node) e ∙ sym (does (Whole Lost)))
      | inr lacks ↦ inr (record { node = node; task = t; n = n; named = named; first = lacks.first; takes = lacks.takes; is = does c ∙ ap (put_into w node) lacks.is; other = does (Whole Lost); leaves = ap (λ ns. record w { nodes = ns }) (put_same node n w.nodes found) })
    ]

-- what a part does whole leaves nothing under way
part_quiet : (w : World) (p : Part) → IsQuiet w.nodes → IsQuiet (part_effect w p (Whole Lost)).world.nodes
part_quiet w p quiet = go (view w p)
  where
    go : View w p → IsQuiet (part_effect w p (Whole Lost)).world.nodes
    go (Fixed answer ends kind is) = subst (λ (x : World). IsQuiet x.nodes) (sym (ap (λ (x : PartEffect). x.world) (is (Whole Lost)))) quiet
    go (Doing node t n named found does may) = subst (λ (x : PartEffect). IsQuiet x.world.nodes) (sym (does (Whole Lost)))
        (quiet_put node (task_effect w.shared (stops_at node w) n t (Whole Lost)).node w.nodes (whole_quiet w.shared (stops_at node w) n t (quiet_found node w.nodes n quiet found)) quiet)

part_disks : (w : World) (p : Part) → (part_effect w p (Whole Lost)).world.disks ≡ w.disks
part_disks w p = go (view w p)
  where
    go : View w p → (part_effect w p (Whole Lost)).world.disks ≡ w.disks
    go (Fixed answer ends kind is) = ap (λ (x : PartEffect). x.world.disks) (is (Whole Lost))
    go (Doing node t n named found does may) = ap (λ (x : PartEffect). x.world.disks) (does (Whole Lost))

-- Two runs of one statement: they show the same and lead to the same; or one of them ends with a want of memory, and the other does not, or shows more.

abbrev Lack : List Line → Line → List Line → Line → Type 0
Lack k a l b = (a ≡ NoMemory) × ((is_memory b ≡ false) ⊎ (length k < length l))

data Both (k : List Line) (a : Line) (v : World) (l : List Line) (b : Line) (u : World) : Type 0 where
  Same : k ≡ l → a ≡ b → v ≡ u → Both k a v l b u
  FirstLacks : Lack k a l b → Both k a v l b u
  SecondLacks : Lack l b k a → Both k a v l b u

-- behind the same lines
lack_behind : (front k l : List Line) (a b : Line) → Lack k a l b → Lack (front ++ k) a (front ++ l) b
lack_behind front k l a b (e, inl h) = (e, inl h)
lack_behind front k l a b (e, inr h) = let x = length-append front k in let y = length-append front l in (e, inr (omega arith))

both_behind : (front k l : List Line) (a b : Line) (v u : World) → Both k a v l b u → Both (front ++ k) a v (front ++ l) b u
both_behind front k l a b v u (Same e f g) = Same (ap (λ ls. front ++ ls) e) f g
both_behind front k l a b v u (FirstLacks h) = FirstLacks (lack_behind front k l a b h)
both_behind front k l a b v u (SecondLacks h) = SecondLacks (lack_behind front l k b a h)

-- a task shows something with its success where it may lack memory
abbrev ShowsMore : Task → Type 0
ShowsMore t = (s : Shared) (n m : Node) → (task_service t).takes_memory n ≡ true → 0 < length (succeeded s m (task_service t)).lines

-- what the other run shows where memory is missing for a part of this one
lacks_against : (w : World) (p : Part) (c : Choice) (more : Onward) → IsOk ShowsMore p → PartLacks w p c → (lines : List Line) (answer : Line) (v : World) → Then (part_effect w p (Whole Lost)) more lines answer v → Lack [] NoMemory lines answer
lacks_against w p c more ok lacks lines answer v h = go (part_effect w p (Whole Lost)).ends refl h
  where
    e : TaskEffect
    e = task_effect w.shared (stops_at lacks.node w) lacks.n lacks.task (Whole Lost)

    go : (b : Bool) → (part_effect w p (Whole Lost)).ends ≡ b → Then (record (part_effect w p (Whole Lost)) { ends = b }) more lines answer v → Lack [] NoMemory lines answer
    go true is k = (refl, inl (ap is_memory (k.1 ∙ ap (λ (x : PartEffect). x.answer) lacks.other) ∙ answered_other w.shared (stops_at lacks.node w) lacks.n lacks.task lacks.first lacks.takes))
    go false is k =
        let shows : (part_effect w p (Whole Lost)).lines ≡ (succeeded w.shared (ready_node Lost (stops_at lacks.node w) (task_service lacks.task) lacks.n) (task_service lacks.task)).lines =
        ap (λ (x : PartEffect). x.lines) lacks.other ∙ goes_on_done w.shared (stops_at lacks.node w) lacks.n lacks.task lacks.first lacks.takes (sym (ap (λ (x : PartEffect). x.ends) lacks.other) ∙ is) in
        let some : 0 < length (part_effect w p (Whole Lost)).lines = subst (λ ls. 0 < length ls) (sym shows) (ok w lacks.node lacks.task lacks.named w.shared lacks.n (ready_node Lost (stops_at lacks.node w) (task_service lacks.task) lacks.n) lacks.takes) in
        let sum = ap length k.1 ∙ length-append (part_effect w p (Whole Lost)).lines k.0 in
        (refl, inr (omega arith))

-- a part that lacks memory ends so
lacks_end : (w : World) (p : Part) (c : Choice) (more : Onward) → PartLacks w p c → (lines : List Line) (answer : Line) (v : World) → Then (part_effect w p c) more lines answer v → (lines ≡ []) × (answer ≡ NoMemory) × (v ≡ w)
lacks_end w p c more lacks lines answer v h =
    let k : Then (put_into w lacks.node (refused w.shared lacks.n NoMemory)) more lines answer v = subst (λ x. Then x more lines answer v) lacks.is h in
    (k.0, k.1, k.2 ∙ lacks.leaves)

-- from one world on, where no count rises
record AreSame (more : Onward) (disks : List DiskCounts) : Type 1 where
  both : (w : World) (given : Line) → IsQuiet w.nodes → disks ≡ w.disks → (k : List Line) (a : Line) (v : World) → more w given k a v → (l : List Line) (b : Line) (u : World) → more w given l b u → Both k a v l b u

then_both : (disks : List DiskCounts) (more : Onward) → AreSame more disks → (w : World) (p : Part) → IsQuiet w.nodes → disks ≡ w.disks → (k : List Line) (a : Line) (v : World) → Then (part_effect w p (Whole Lost)) more k a v →
    (l : List Line) (b : Line) (u : World) → Then (part_effect w p (Whole Lost)) more l b u → Both k a v l b u
then_both disks more same w p quiet e k a v h l b u g = go (part_effect w p (Whole Lost)).ends h g
  where
    go : (t : Bool) → Then (record (part_effect w p (Whole Lost)) { ends = t }) more k a v → Then (record (part_effect w p (Whole Lost)) { ends = t }) more l b u → Both k a v l b u
    go true x y = Same (x.0 ∙ sym y.0) (x.1 ∙ sym y.1) (x.2 ∙ sym y.2)
    go false x y =
        let rest = same.both (part_effect w p (Whole Lost)).world (part_effect w p (Whole Lost)).answer (part_quiet w p quiet) (e ∙ sym (part_disks w p)) x.0 a v x.2 y.0 b u y.2 in
        subst (λ ls. Both ls a v l b u) (sym x.1) (subst (λ ls. Both ((part_effect w p (Whole Lost)).lines ++ x.0) a v ls b u) (sym y.1) (both_behind (part_effect w p (Whole Lost)).lines x.0 y.0 a b v u rest))

part_both : (disks : List DiskCounts) (more : Onward) → CanRise disks → AreSame more disks → (w : World) (p : Part) → IsOk ShowsMore p → IsQuiet w.nodes → disks ≡ w.disks → (c : Choice) → Allowed w p disks c → (k : List Line) (a : Line) (v : World) → Then (part_effect w p c) more k a v →
    (d : Choice) → Allowed w p disks d → (l : List Line) (b : Line) (u : World) → Then (part_effect w p d) more l b u → Both k a v l b u
part_both disks more low same w p ok quiet e c may k a v h d might l b u g = go (quiet_part w p c disks quiet e (subst CanRise e low) may) (quiet_part w p d disks quiet e (subst CanRise e low) might)
  where
    go : (part_effect w p c ≡ part_effect w p (Whole Lost)) ⊎ PartLacks w p c → (part_effect w p d ≡ part_effect w p (Whole Lost)) ⊎ PartLacks w p d → Both k a v l b u
    go (inl x) (inl y) = then_both disks more same w p quiet e k a v (subst (λ q. Then q more k a v) x h) l b u (subst (λ q. Then q more l b u) y g)
    go (inr x) (inl y) =
        let end = lacks_end w p c more x k a v h in
        FirstLacks (subst (λ ls. Lack ls a l b) (sym end.0) (subst (λ z. Lack [] z l b) (sym end.1) (lacks_against w p c more ok x l b u (subst (λ q. Then q more l b u) y g))))
    go (inl x) (inr y) =
        let end = lacks_end w p d more y l b u g in
        SecondLacks (subst (λ ls. Lack ls b k a) (sym end.0) (subst (λ z. Lack [] z k a) (sym end.1) (lacks_against w p d more ok y k a v (subst (λ q. Then q more k a v) x h))))
    go (inr x) (inr y) =
        let one = lacks_end w p c more x k a v h in
        let two = lacks_end w p d more y l b u g in
        Same (one.0 ∙ sym two.0) (one.1 ∙ sym two.1) (one.2 ∙ sym two.2)

parts_both : (disks : List DiskCounts) → CanRise disks → (ps : List Part) → EachPart (IsOk ShowsMore) ps → (more : Onward) → AreSame more disks → AreSame (Parts ps disks more) disks
parts_both disks low [] oks more same = record { both = λ w given quiet e k a v h l b u g. same.both w given quiet e k a v h l b u g }
parts_both disks low (p ∷ ps) oks more same = record { both = λ w given quiet e k a v h l b u g. part_both disks (Parts ps disks more) low (parts_both disks low ps oks.1 more same) w p oks.0 quiet e h.0 h.1 k a v h.2 g.0 g.1 l b u g.2 }

phases_both : (disks : List DiskCounts) → CanRise disks → (ps : List Phase) → EachPhase (IsOk ShowsMore) ps → AreSame (Phases ps disks) disks
phases_both disks low [] oks = record { both = λ w given quiet e k a v h l b u g. Same (h.0 ∙ sym g.0) (h.1 ∙ sym g.1) (h.2 ∙ sym g.2) }
phases_both disks low (p ∷ ps) oks = record { both = λ w given quiet e k a v h l b u g. (parts_both disks low (p w) (oks.0 w) (Phases ps disks) (phases_both disks low ps oks.1)).both w given quiet e k a v h l b u g }

-- Statements.

-- a task that takes no memory
no_memory : (t : Task) → ((n : Node) → (task_service t).takes_memory n ≡ false) → ShowsMore t
no_memory t none s n m takes = absurd (clash _ takes (none n))

some_lines : (xs ys : List Line) (z : Line) → 0 < length (xs ++ (ys ++ z ∷ []))
some_lines xs ys z = let a = length-append xs (ys ++ z ∷ []) in let b = length-append ys (z ∷ []) in omega arith

restart_shows : ShowsMore Restarts
restart_shows s n m takes = some_lines (lines_of_rows ((task_service Restarts).rows s m)) (prepared_lines m) (line.Booted m.name (m.durable.boot + 1))

-- two runs of one task
task_both : (w v u : World) (s : Statement) (node : List ℕ) (t : Task) (n : Node) (k l : List Line) → IsTask w s node t n → IsQuiet w.nodes → v.disks ≡ w.disks → u.disks ≡ w.disks → CanRise w.disks → (one : Step w s k v) → (two : Step w s l u) →
    Both one.events one.answer v two.events two.answer u
task_both w v u s node t n k l task quiet e f low one two =
    let x = turn w v s node t n k task one in
    let y = turn w u s node t n l task two in
    go x y (quiet_choice w.shared (stops_at node w) n t (λ cause. RoseAt w node cause v.disks) x.choice still (λ cause rose. not_risen w node cause v.disks e low rose) x.allowed)
    (quiet_choice w.shared (stops_at node w) n t (λ cause. RoseAt w node cause u.disks) y.choice still (λ cause rose. not_risen w node cause u.disks f low rose) y.allowed)
  where
    still : n.under_way ≡ None
    still = quiet_found node w.nodes n quiet task.found

    -- what is done whole
    done : TaskEffect
    done = task_effect w.shared (stops_at node w) n t (Whole Lost)

    same : (x : Turn w node t n one.events one.answer v) (y : Turn w node t n two.events two.answer u) → task_effect w.shared (stops_at node w) n t x.choice ≡ task_effect w.shared (stops_at node w) n t y.choice → Both one.events one.answer v two.events two.answer u
    same x y is = Same (x.shows ∙ ap (λ (q : TaskEffect). q.lines) is ∙ sym y.shows) (x.answers ∙ ap (λ (q : TaskEffect). q.answer) is ∙ sym y.answers)
        (x.goes ∙ ap (λ (q : TaskEffect). record (put_into w node q).world { disks = v.disks }) is ∙ ap (λ ds. record (put_into w node (task_effect w.shared (stops_at node w) n t y.choice)).world { disks = ds }) (e ∙ sym f) ∙ sym y.goes)

    go : (x : Turn w node t n one.events one.answer v) (y : Turn w node t n two.events two.answer u) → (task_effect w.shared (stops_at node w) n t x.choice ≡ done) ⊎ Lacks w.shared n t (task_effect w.shared (stops_at node w) n t x.choice) →
        (task_effect w.shared (stops_at node w) n t y.choice ≡ done) ⊎ Lacks w.shared n t (task_effect w.shared (stops_at node w) n t y.choice) → Both one.events one.answer v two.events two.answer u
    go x y (inl a) (inl b) = same x y (a ∙ sym b)
    go x y (inr a) (inr b) = same x y (a.is ∙ sym b.is)
    go x y (inr a) (inl b) = FirstLacks (x.answers ∙ ap (λ (q : TaskEffect). q.answer) a.is, inl (ap is_memory (y.answers ∙ ap (λ (q : TaskEffect). q.answer) b) ∙ answered_other w.shared (stops_at node w) n t a.first a.takes))
    go x y (inl a) (inr b) = SecondLacks (y.answers ∙ ap (λ (q : TaskEffect). q.answer) b.is, inl (ap is_memory (x.answers ∙ ap (λ (q : TaskEffect). q.answer) a) ∙ answered_other w.shared (stops_at node w) n t b.first b.takes))

-- two runs of any statement
begun_same : (s : Statement) (w : World) → ((begun_with s w).nodes ≡ w.nodes) × ((begun_with s w).disks ≡ w.disks)
begun_same Settle w = (refl, refl)
begun_same (At node request) w = (refl, refl)
begun_same (Deliver number) w = (refl, refl)
begun_same (LinkDown a b) w = (refl, refl)

with_counts_both : (k l : List Line) (a b : Line) (x y v u : World) → v ≡ record x { disks = v.disks } → u ≡ record y { disks = u.disks } → v.disks ≡ u.disks → Both k a x l b y → Both k a v l b u
with_counts_both k l a b x y v u p q e (Same f g h) = Same f g (p ∙ (λ i. record (h i) { disks = e i }) ∙ sym q)
with_counts_both k l a b x y v u p q e (FirstLacks h) = FirstLacks h
with_counts_both k l a b x y v u p q e (SecondLacks h) = SecondLacks h

step_both : (w v u : World) (s : Statement) (k l : List Line) → IsQuiet w.nodes → v.disks ≡ w.disks → u.disks ≡ w.disks → CanRise w.disks → (one : Step w s k v) → (two : Step w s l u) → Both one.events one.answer v two.events two.answer u
step_both w v u s k l quiet e f low one two = go (refused_at_once w s) refl one.does two.does
  where
    swept : task_of w s ≡ None → refused_at_once w s ≡ None → Phases (phases_of s) v.disks (begun_with s w) line.Normal one.events one.answer one.world → Phases (phases_of s) u.disks (begun_with s w) line.Normal two.events two.answer two.world → Both one.events one.answer v two.events two.answer u
    swept none once x y =
        let begins = begun_same s w in
        let same = phases_both v.disks (subst CanRise (sym e) low) (phases_of s) (sweep_ok ShowsMore (λ m. no_memory (Hears m) (λ n. refl)) (no_memory RunsDown (λ n. refl)) (no_memory Ticks (λ n. refl)) (λ other. no_memory (LosesLink other) (λ n. refl)) (λ now. no_memory (Serves (Clock now)) (λ n. refl)) w s (λ settle. restart_shows) none once) in
        with_counts_both one.events two.events one.answer two.answer one.world two.world v u one.goes two.goes (e ∙ sym f)
        (same.both (begun_with s w) line.Normal (subst IsQuiet (sym begins.0) quiet) (e ∙ sym begins.1) one.events one.answer one.world x two.events two.answer two.world
        (subst (λ ds. Phases (phases_of s) ds (begun_with s w) line.Normal two.events two.answer two.world) (f ∙ sym e) y))

    tasks : (o : Option TaskAt) → task_of w s ≡ o → refused_at_once w s ≡ None → Phases (phases_of s) v.disks (begun_with s w) line.Normal one.events one.answer one.world → Phases (phases_of s) u.disks (begun_with s w) line.Normal two.events two.answer two.world → Both one.events one.answer v two.events two.answer u
    tasks (Some a) is once x y = let there = task_there w s a is once in task_both w v u s a.node a.task there.0 k l (record { begins = once; task = is; found = there.1 }) quiet e f low one two
    tasks None is once x y = swept is once x y

    go : (o : Option Line) → refused_at_once w s ≡ o → Begins o (Phases (phases_of s) v.disks (begun_with s w) line.Normal) w one.events one.answer one.world → Begins o (Phases (phases_of s) u.disks (begun_with s w) line.Normal) w two.events two.answer two.world →
        Both one.events one.answer v two.events two.answer u
    go (Some refusal) is x y = with_counts_both one.events two.events one.answer two.answer one.world two.world v u one.goes two.goes (e ∙ sym f) (Same (x.0 ∙ sym y.0) (x.1 ∙ sym y.1) (x.2 ∙ sym y.2))
    go None is x y = tasks (task_of w s) refl is x y

-- Lines that say alike where memory was missing.

last_is : (o : Option Line) (es : List Line) (a : Line) → last_or o (es ++ a ∷ []) ≡ Some a
last_is o [] a = refl
last_is o (e ∷ es) a = last_is (Some e) es a

lacked_is : (es : List Line) (a : Line) → lacked_memory (es ++ a ∷ []) ≡ lacking a (length (es ++ a ∷ []))
lacked_is es a = rw (last_is None es a, lacked_memory) refl

lacking_other : (a : Line) (n : ℕ) → is_memory a ≡ false → lacking a n ≡ None
lacking_other NoMemory n h = let no : ⊥ = cc in absurd no
lacking_other _ n h = refl

lacking_memory : (a : Line) (n : ℕ) → is_memory a ≡ true → lacking a n ≡ Some n
lacking_memory NoMemory n h = refl
lacking_memory _ n h = let no : ⊥ = cc in absurd no

not_alike : (k l : List Line) (a b : Line) → Lack k a l b → lacked_memory (k ++ a ∷ []) ≡ lacked_memory (l ++ b ∷ []) → ⊥
not_alike k l a b (e, differ) same = go (is_memory b) refl differ
  where
    one : lacked_memory (k ++ a ∷ []) ≡ Some (length (k ++ a ∷ []))
    one = lacked_is k a ∙ lacking_memory a (length (k ++ a ∷ [])) (ap is_memory e)

    go : (t : Bool) → is_memory b ≡ t → (is_memory b ≡ false) ⊎ (length k < length l) → ⊥
    go false is h = none_some _ _ (lacked_is l b ∙ lacking_other b (length (l ++ b ∷ [])) is) (sym same ∙ one)
    go true is (inl h) = clash _ is h
    go true is (inr h) =
        let x = length-append k (a ∷ []) in
        let y = length-append l (b ∷ []) in
        let z : length (k ++ a ∷ []) ≡ length (l ++ b ∷ []) = some_is _ _ (sym one ∙ same ∙ lacked_is l b ∙ lacking_memory b (length (l ++ b ∷ [])) is) in
        omega arith

same_turn : (w : World) (r : Reading) (k l : List Line) (v u : World) → IsQuiet w.nodes → v.disks ≡ w.disks → u.disks ≡ w.disks → CanRise w.disks → lacked_memory k ≡ lacked_memory l → LineTurn w r k v → LineTurn w r l u → (k ≡ l) × (v ≡ u)
same_turn w Blank k l v u quiet e f low same a b = (a.0 ∙ sym b.0, a.1 ∙ sym b.1)
same_turn w (Bad column) k l v u quiet e f low same a b = absurd a
same_turn w (Says s) k l v u quiet e f low same a b = go (step_both w v u s k l quiet e f low a b)
  where
    alike : lacked_memory (a.events ++ a.answer ∷ []) ≡ lacked_memory (b.events ++ b.answer ∷ [])
    alike = sym (ap lacked_memory a.shows) ∙ same ∙ ap lacked_memory b.shows

    go : Both a.events a.answer v b.events b.answer u → (k ≡ l) × (v ≡ u)
    go (Same x y z) = (a.shows ∙ (λ i. x i ++ y i ∷ []) ∙ sym b.shows, z)
    go (FirstLacks h) = absurd (not_alike a.events b.events a.answer b.answer h alike)
    go (SecondLacks h) = absurd (not_alike b.events a.events b.answer a.answer h (sym alike))

-- Transcripts.

-- counts that neither fall nor are fallen from are the same
falls_back : (olds news : List DiskCounts) → NoneFalls olds news → NoneFalls news olds → news ≡ olds
falls_back [] [] h k = refl
falls_back [] (new ∷ news) h k = absurd h
falls_back (old ∷ olds) [] h k = absurd h
falls_back (old ∷ olds) (new ∷ news) h k =
    let faults : new.faults ≡ old.faults = omega arith in
    let stops : new.stops ≡ old.stops = omega arith in
    let rest = falls_back olds news h.2 k.2 in
    λ i. record { faults = faults i; stops = stops i } ∷ rest i

-- no count falls in a turn, nor in a transcript
turn_up : (w v : World) (r : Reading) (lines : List Line) → LineTurn w r lines v → NoneFalls w.disks v.disks
turn_up w v Blank lines t = subst (λ x. NoneFalls w.disks x.disks) (sym t.1) (none_falls_same w.disks)
turn_up w v (Says s) lines t = t.counts
turn_up w v (Bad column) lines t = absurd t

legal_up : (opening w : World) (es : List Entry) → Legal opening es w → NoneFalls opening.disks w.disks
legal_up opening w [] legal = subst (λ x. NoneFalls opening.disks x.disks) (sym legal) (none_falls_same opening.disks)
legal_up opening w (e ∷ es) legal = none_falls_on opening.disks legal.0.disks w.disks (legal_up opening legal.0 es legal.1) (turn_up legal.0 w (reading e.source.text) e.lines legal.2)

-- where no count rose up to the end, none had risen before the last turn
mid_same : (opening mid w : World) (e : Entry) (es : List Entry) → w.disks ≡ opening.disks → Legal opening es mid → LineTurn mid (reading e.source.text) e.lines w → mid.disks ≡ opening.disks
mid_same opening mid w e es same legal t = falls_back opening.disks mid.disks (legal_up opening mid es legal) (subst (λ disks. NoneFalls mid.disks disks) same (turn_up mid w (reading e.source.text) e.lines t))

-- Nothing is under way behind a step in which no count rose.

part_quiet_any : (w : World) (p : Part) (c : Choice) (after : List DiskCounts) → IsQuiet w.nodes → after ≡ w.disks → CanRise w.disks → Allowed w p after c → IsQuiet (part_effect w p c).world.nodes
part_quiet_any w p c after quiet same low allowed = go (quiet_part w p c after quiet same low allowed)
  where
    go : (part_effect w p c ≡ part_effect w p (Whole Lost)) ⊎ PartLacks w p c → IsQuiet (part_effect w p c).world.nodes
    go (inl e) = subst (λ (x : PartEffect). IsQuiet x.world.nodes) (sym e) (part_quiet w p quiet)
    go (inr lacks) = subst (λ (x : World). IsQuiet x.nodes) (sym (ap (λ (x : PartEffect). x.world) lacks.is ∙ lacks.leaves)) quiet

abbrev StaysQuiet : List DiskCounts → World → List Line → Line → World → Type 0
StaysQuiet after w lines answer v = IsQuiet w.nodes → after ≡ w.disks → CanRise w.disks → IsQuiet v.nodes

step_quiet : (w v : World) (s : Statement) (lines : List Line) → Step w s lines v → v.disks ≡ w.disks → CanRise w.disks → IsQuiet w.nodes → IsQuiet v.nodes
step_quiet w v s lines step same low quiet = subst (λ (x : World). IsQuiet x.nodes) (sym step.goes) (go (refused_at_once w s) step.does)
  where
    begins : ((begun_with s w).nodes ≡ w.nodes) × ((begun_with s w).disks ≡ w.disks)
    begins = begun_same s w

    go : (o : Option Line) → Begins o (Phases (phases_of s) v.disks (begun_with s w) line.Normal) w step.events step.answer step.world → IsQuiet step.world.nodes
    go (Some refusal) d = subst (λ (x : World). IsQuiet x.nodes) (sym d.2) quiet
    go None d = phases_fold v.disks (λ p. Unit {0}) (λ given. Unit {0}) (StaysQuiet v.disks)
        (λ u given q still e h. still)
        (λ u p c ok allowed ends still e h. part_quiet_any u p c v.disks still e h allowed)
        (λ u p c ok allowed on. (tt, λ rest answer x k still e h. let keeps = (way_keeps u p c v.disks (way u p c v.disks allowed)).disks in k (part_quiet_any u p c v.disks still e h allowed) (e ∙ sym keeps) (subst CanRise (sym keeps) h)))
        (phases_of s) (each_phase s) (begun_with s w) line.Normal step.events step.answer step.world tt d (subst IsQuiet (sym begins.0) quiet) (same ∙ sym begins.1) (subst CanRise (sym begins.1) low)

turn_quiet : (w v : World) (r : Reading) (lines : List Line) → LineTurn w r lines v → v.disks ≡ w.disks → CanRise w.disks → IsQuiet w.nodes → IsQuiet v.nodes
turn_quiet w v Blank lines t same low quiet = subst (λ (x : World). IsQuiet x.nodes) (sym t.1) quiet
turn_quiet w v (Says s) lines t same low quiet = step_quiet w v s lines t same low quiet
turn_quiet w v (Bad column) lines t same low quiet = absurd t

legal_quiet : (opening w : World) (es : List Entry) → Legal opening es w → w.disks ≡ opening.disks → CanRise opening.disks → IsQuiet opening.nodes → IsQuiet w.nodes
legal_quiet opening w [] legal same low quiet = subst (λ (x : World). IsQuiet x.nodes) (sym legal) quiet
legal_quiet opening w (e ∷ es) legal same low quiet =
    let mid = mid_same opening legal.0 w e es same legal.1 legal.2 in
    turn_quiet legal.0 w (reading e.source.text) e.lines legal.2 (same ∙ sym mid) (subst CanRise (sym mid) low) (legal_quiet opening legal.0 es legal.1 mid low quiet)

same_entry : (e f : Entry) → e.source ≡ f.source → e.lines ≡ f.lines → e ≡ f
same_entry e f p q = λ i. record { source = p i; lines = q i }

both : (opening v u : World) (es fs : List Entry) → IsQuiet opening.nodes → Legal opening es v → Legal opening fs u → v.disks ≡ opening.disks → u.disks ≡ opening.disks → CanRise opening.disks →
    map (λ e. e.source) es ≡ map (λ e. e.source) fs → map (λ e. lacked_memory e.lines) es ≡ map (λ e. lacked_memory e.lines) fs → (es ≡ fs) × (v ≡ u)
both opening v u [] [] quiet h k a b low same lacked = (refl, h ∙ sym k)
both opening v u [] (f ∷ fs) quiet h k a b low same lacked = let none : ⊥ = cc in absurd none
both opening v u (e ∷ es) [] quiet h k a b low same lacked = let none : ⊥ = cc in absurd none
both opening v u (e ∷ es) (f ∷ fs) quiet h k a b low same lacked =
    let x = mid_same opening h.0 v e es a h.1 h.2 in
    let y = mid_same opening k.0 u f fs b k.1 k.2 in
    let heads : e.source ≡ f.source = cc in
    let tails : map (λ e. e.source) es ≡ map (λ e. e.source) fs = cc in
    let lack : lacked_memory e.lines ≡ lacked_memory f.lines = cc in
    let lacks : map (λ e. lacked_memory e.lines) es ≡ map (λ e. lacked_memory e.lines) fs = cc in
    let before = both opening h.0 k.0 es fs quiet h.1 k.1 x y low tails lacks in
    let other : LineTurn h.0 (reading e.source.text) f.lines u =
    subst (λ (source : ScriptLine). LineTurn h.0 (reading source.text) f.lines u) (sym heads) (subst (λ m. LineTurn m (reading f.source.text) f.lines u) (sym before.1) k.2) in
    let now = same_turn h.0 (reading e.source.text) e.lines f.lines v u (legal_quiet opening h.0 es h.1 x low quiet) (a ∙ sym x) (b ∙ sym x) (subst CanRise (sym x) low) lack h.2 other in
    (λ i. same_entry e f heads now.0 i ∷ before.0 i, now.1)

opening_quiet : (nodes : List Node) → AreOpening nodes → IsQuiet nodes
opening_quiet [] h = tt
opening_quiet (n ∷ ns) h = (h.0.under_way, opening_quiet ns h.1)

pub determined : IsDetermined
determined nodes disks v u es fs opening h k a b low same lacked = (both (opened nodes disks) v u es fs (opening_quiet nodes opening) h k a b low same lacked).0
