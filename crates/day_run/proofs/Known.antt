-- Of which disks something is known, or an INIT failed: a node keeps that whatever it is asked.
use Rattle.std.proofs.Common.{◌≡◌, ◌⊎◌, inl, inr, ℕ, List, [], ◌∷◌, Bool, true, false, Option, Some, None, take, if◌then◌else◌, refl, sym, ◌∙◌, ap, subst}
use Rattle.std.specs.Str.{bytes_eq}
use Rattle.emitter_model.specs.transcript_model.Lines.{Line, Normal}
use Rattle.script_lang.specs.script_model.Statements.{At, Bad, Blank, Deliver, LinkDown, Reading, Says, Settle, Statement}
use Rattle.vms_model.specs.Ids.{Id}
use Rattle.unit_laws.specs.Units.{Map}
use Rattle.run_laws.specs.run_agreement.Seen.{IsKnown}
use Rattle.world_laws.specs.run_model.World.{Act, DiskCounts, Durable, Formats, Half, Lost, Node, Outturn, Settlement, Shared, Tables, Taken, World, aborted_prepared, acted, find_node, powered, settlement_of, unpowered, with_half, with_node, with_settlement}
use Rattle.world_laws.specs.run_model.Answers.{Row, Service, powers, refused_before_reading, spoils, task_service}
use Rattle.world_laws.specs.run_model.Steps as task
use Rattle.world_laws.specs.run_model.Steps.{Choice, Cut, Unpowered, Whole, WithoutMemory, node_after, node_after_rows, ready_node, rows_to_cut, service_effect, task_effect, with_unknown_volume}
use Rattle.world_laws.specs.run_model.Statements.{Allowed, Begins, Part, PartEffect, Phase, Phases, Step, begun_with, part_effect, phases_of, refused_at_once, stops_at}
use Rattle.world_laws.specs.run_model.Transcript.{Turn}
use Rattle.world_laws.proofs.run_model.NodeLists.{some_is}
use Rattle.world_laws.proofs.run_model.PartLemmas.{Doubted, Done, EachPart, EachPhase, Idle, Missing, Way, phases_fold, way}
use Rattle.world_laws.proofs.Induction.{acts_name}

settled_volume : (o : Option Settlement) (d : Durable) → (with_settlement o d).volume ≡ d.volume
settled_volume None d = refl
settled_volume (Some s) d = refl

pub act_known : (act : Act) (n : Node) → IsKnown n → IsKnown (acted act n)
act_known (Formats slots journal) n h = λ e. let none : ⊥ = cc in absurd none
act_known (Tables a moment) n h = λ e. h (sym (settled_volume (settlement_of a moment) _) ∙ e)
act_known _ n h = h

after_known : (o : Option Act) (n : Node) → IsKnown n → IsKnown (node_after o n)
after_known None n h = h
after_known (Some act) n h = act_known act n h

rows_known : (rs : List Row) (n : Node) → IsKnown n → IsKnown (node_after_rows rs n)
rows_known [] n h = h
rows_known (r ∷ rs) n h = rows_known rs (node_after r.act n) (after_known r.act n h)

spoilt_known : (b : Bool) (n : Node) → IsKnown n → IsKnown (with_unknown_volume b n)
spoilt_known true n h = λ e. refl
spoilt_known false n h = h

half_volume : (o : Option Id) (standing : List ℕ → Map) (d : Durable) → (with_half o standing d).volume ≡ d.volume
half_volume None standing d = refl
half_volume (Some serial) standing d = refl

powered_known : (o : Outturn) (stops : ℕ) (n : Node) → IsKnown n → IsKnown (powered o stops n)
powered_known Lost stops n h = h
powered_known (Half standing) stops n h = λ e. h (sym (half_volume (aborted_prepared n.under_way n.durable) standing n.durable) ∙ e)
powered_known Taken stops n h = go n.under_way h
  where
    go : (w : Option Act) → IsKnown (record n { under_way = w }) → IsKnown (powered Taken stops (record n { under_way = w }))
    go None k = k
    go (Some act) k = act_known act (record n { under_way = Some act }) k

ready_known : (o : Outturn) (stops : ℕ) (e : Service) (n : Node) → IsKnown n → IsKnown (ready_node o stops e n)
ready_known o stops e n h = go (powers e)
  where
    go : (b : Bool) → IsKnown (if b then with_unknown_volume (spoils e) (powered o stops n) else n)
    go true = spoilt_known (spoils e) (powered o stops n) (powered_known o stops n h)
    go false = h

begun_known : (s : Shared) (n : Node) (e : Service) (o : Option Line) → IsKnown n → IsKnown (task.begun s n e o).node
begun_known s n e (Some refusal) h = h
begun_known s n e None h = after_known e.closing (node_after_rows (e.rows s n) n) (rows_known (e.rows s n) n h)

whole_known : (s : Shared) (n ready : Node) (e : Service) (o : Option Line) → IsKnown n → IsKnown ready → IsKnown (task.whole s n ready e o).node
whole_known s n ready e (Some refusal) h k = h
whole_known s n ready e None h k = begun_known s ready e (e.refused_after_reading s ready) k

effect_known : (s : Shared) (stops : ℕ) (n : Node) (e : Service) (c : Choice) → IsKnown n → IsKnown (service_effect s stops n e c).node
effect_known s stops n e (Whole o) h = whole_known s n (ready_node o stops e n) e (refused_before_reading s n e) h (ready_known o stops e n h)
effect_known s stops n e WithoutMemory h = h
effect_known s stops n e Unpowered h = spoilt_known (spoils e) (unpowered stops n) h
effect_known s stops n e (Cut o done begun cause) h =
    let ready = ready_node o stops e n in
    rows_known (take done (rows_to_cut s ready e)) ready (ready_known o stops e n h)

-- One node among others becomes another of its name.

abbrev WithOne : List ℕ → Node → List Node → List Node
WithOne node m ns = with_node node (λ k. m) ns

-- the one of a name is it, or it is found as before
record IsPut (name : List ℕ) (m : Node) (ns : List Node) (n k : Node) : Type 0 where
  same : k ≡ m
  was : find_node name ns ≡ Some n

found_put : (name node : List ℕ) (m : Node) (ns : List Node) (n k : Node) → find_node node ns ≡ Some n → m.name ≡ n.name → find_node name (WithOne node m ns) ≡ Some k → IsPut name m ns n k ⊎ (find_node name ns ≡ Some k)
found_put name node m [] n k found named e = let none : ⊥ = cc in absurd none
found_put name node m (x ∷ ns) n k found named e = go (bytes_eq node x.name) found e (found_put name node m ns n k)
  where
    there : (b : Bool) → bytes_eq name x.name ≡ b → (o : Option Node) → ◌≡◌ {A = Option Node} (if b then Some x else find_node name ns) o → find_node name (x ∷ ns) ≡ o
    there b is o f = ap (λ (c : Bool). if c then Some x else find_node name ns) is ∙ f

    it : (b : Bool) → bytes_eq name m.name ≡ b → x ≡ n → m.name ≡ x.name → ◌≡◌ {A = Option Node} (if b then Some m else find_node name ns) (Some k) → IsPut name m (x ∷ ns) n k ⊎ (find_node name (x ∷ ns) ≡ Some k)
    it true is it_is same f = inl (record { same = sym (some_is m k f); was = there true (ap (bytes_eq name) (sym same) ∙ is) (Some n) (ap (λ (y : Node). Some y) it_is) })
    it false is it_is same f = inr (there false (ap (bytes_eq name) (sym same) ∙ is) (Some k) f)

    other : (b : Bool) → bytes_eq name x.name ≡ b → ◌≡◌ {A = Option Node} (if b then Some x else find_node name (WithOne node m ns)) (Some k) → (find_node name (WithOne node m ns) ≡ Some k → IsPut name m ns n k ⊎ (find_node name ns ≡ Some k)) → IsPut name m (x ∷ ns) n k ⊎ (find_node name (x ∷ ns) ≡ Some k)
    other true is f more = inr (there true is (Some k) f)
    other false is f more = elim (more f) [ inl p ↦ inl (record { same = p.same; was = there false is (Some n) p.was }) | inr q ↦ inr (there false is (Some k) q) ]

    go : (b : Bool) → ◌≡◌ {A = Option Node} (if b then Some x else find_node node ns) (Some n) → find_node name (if b then m ∷ ns else x ∷ WithOne node m ns) ≡ Some k → (find_node node ns ≡ Some n → m.name ≡ n.name → find_node name (WithOne node m ns) ≡ Some k → IsPut name m ns n k ⊎ (find_node name ns ≡ Some k)) →
        IsPut name m (x ∷ ns) n k ⊎ (find_node name (x ∷ ns) ≡ Some k)
    go true f g more = let is = some_is x n f in it (bytes_eq name m.name) refl is (named ∙ ap (λ (y : Node). y.name) (sym is)) g
    go false f g more = other (bytes_eq name x.name) refl g (more f named)

pub found_same : (node : List ℕ) (m : Node) (ns : List Node) (n : Node) → find_node node ns ≡ Some n → m.name ≡ n.name → find_node node (WithOne node m ns) ≡ Some m
found_same node m [] n found named = let none : ⊥ = cc in absurd none
found_same node m (x ∷ ns) n found named = go (bytes_eq node x.name) refl found (found_same node m ns n)
  where
    go : (b : Bool) → bytes_eq node x.name ≡ b → ◌≡◌ {A = Option Node} (if b then Some x else find_node node ns) (Some n) → (find_node node ns ≡ Some n → m.name ≡ n.name → find_node node (WithOne node m ns) ≡ Some m) → find_node node (if b then m ∷ ns else x ∷ WithOne node m ns) ≡ Some m
    go true is f more = ap (λ (b : Bool). if b then Some m else find_node node ns) (ap (bytes_eq node) (named ∙ ap (λ (y : Node). y.name) (sym (some_is x n f))) ∙ is)
    go false is f more = ap (λ (b : Bool). if b then Some x else find_node node (WithOne node m ns)) is ∙ more f named

-- Of the node of a name something is known.
abbrev pub KnownAt : List ℕ → World → Type 0
KnownAt name w = (n : Node) → find_node name w.nodes ≡ Some n → IsKnown n

part_known : (name : List ℕ) (w : World) (p : Part) (c : Choice) (after : List DiskCounts) → Allowed w p after c → KnownAt name w → KnownAt name (part_effect w p c).world
part_known name w p c after allowed h = by (way w p c after allowed)
  where
    unchanged : (e : PartEffect) → part_effect w p c ≡ e → e.world ≡ w → KnownAt name (part_effect w p c).world
    unchanged e is same = subst (KnownAt name) (sym (ap (λ (x : PartEffect). x.world) is ∙ same)) h

    by : Way w p c after → KnownAt name (part_effect w p c).world
    by (Done node t n found ok is) = subst (KnownAt name) (sym (ap (λ (x : PartEffect). x.world) is)) (λ k e.
        elim (found_put name node (task_effect w.shared (stops_at node w) n t c).node w.nodes n k found (acts_name w.shared (stops_at node w) n t c) e) [
          | inl p ↦ subst IsKnown (sym p.same) (effect_known w.shared (stops_at node w) n (task_service t) c (h n p.was))
          | inr q ↦ h k q
        ])
    by (Missing node none is) = unchanged _ is refl
    by (Idle is) = unchanged _ is refl
    by (Doubted node serial b there none is) = unchanged _ is refl

-- each part is as good as another
each_part : (ps : List Part) → EachPart (λ p. Unit {0}) ps
each_part [] = tt
each_part (p ∷ ps) = (tt, each_part ps)

each_phase : (ps : List Phase) → EachPhase (λ p. Unit {0}) ps
each_phase [] = tt
each_phase (p ∷ ps) = (λ w. each_part (p w), each_phase ps)

begun_same : (name : List ℕ) (s : Statement) (w : World) → KnownAt name w → KnownAt name (begun_with s w)
begun_same name Settle w h = h
begun_same name (At node request) w h = h
begun_same name (Deliver number) w h = h
begun_same name (LinkDown a b) w h = h

step_known : (name : List ℕ) (w v : World) (s : Statement) (lines : List Line) → Step w s lines v → KnownAt name w → KnownAt name v
step_known name w v s lines d h = subst (KnownAt name) (sym d.goes) (go (refused_at_once w s) d.does)
  where
    go : (o : Option Line) → Begins o (Phases (phases_of s) v.disks (begun_with s w) Normal) w d.events d.answer d.world → KnownAt name d.world
    go (Some refusal) q = subst (KnownAt name) (sym q.2) h
    go None q =
        phases_fold v.disks (λ p. Unit {0}) (λ given. Unit {0}) (λ u ls a x. KnownAt name u → KnownAt name x) (λ u given ok k. k) (λ u p c ok allowed ends k. part_known name u p c v.disks allowed k)
        (λ u p c ok allowed on. (tt, λ rest a x more k. more (part_known name u p c v.disks allowed k)))
        (phases_of s) (each_phase (phases_of s)) (begun_with s w) Normal d.events d.answer d.world tt q (begun_same name s w h)

pub turn_known : (name : List ℕ) (w v : World) (r : Reading) (lines : List Line) → Turn w r lines v → KnownAt name w → KnownAt name v
turn_known name w v Blank lines turn h = subst (KnownAt name) (sym turn.1) h
turn_known name w v (Bad column) lines turn h = absurd turn
turn_known name w v (Says s) lines turn h = step_known name w v s lines turn h
