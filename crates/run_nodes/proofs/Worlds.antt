-- A settling goes from phase to phase, and from node to node, in the world of the kept nodes.
use Rattle.std.specs.Prelude.{slice_get, slice_set}
use Rattle.std.proofs.Common.{◌≡◌, ℕ, ◌+◌, ◌≤◌, List, [], ◌∷◌, ◌++◌, take, length, Bool, true, false, Some, refl, sym, ◌∙◌, ap, subst, add-one, append_assoc}
use Rattle.std.proofs.lemmas.List.{length-map}
use Rattle.block_disk.specs.Disk.{CallLog}
use Rattle.emitter_model.specs.transcript_model.Lines.{Normal}
use Rattle.emitter_model.specs.Emitting.{Emits, Shown}
use Rattle.emitter_model.proofs.EmittingLemmas.{emits_nothing, emits_on}
use Rattle.script_lang.specs.script_model.Statements.{Settle}
use Rattle.said_steps.specs.run_model.World.{Node, World}
use Rattle.said_steps.specs.run_model.Answers.{Restarts, RunsDown}
use Rattle.said_steps.specs.run_model.Statements.{Part, begun_with}
use Rattle.dtm_node.specs.run_shared.Sharing.{SharedState}
use Rattle.statement_steps.specs.run_agreement.Laws.{NamesApart}
use Rattle.dtm_node.specs.node_standing.Keeping.{IsPromised}
use Rattle.dtm_node.specs.node_standing.Standing.{NodeState, counts_of, disk_in, is_up}
use Rattle.statement_steps.specs.Doing.{AllKept, IsWithin, moved}
use Rattle.statement_steps.specs.Settling.{AreUp, Through, asks_of, restart_of, run_down_of}
use Rattle.statement_steps.specs.TheLaws.{StaysWithin}
use Rattle.statement_steps.proofs.Going.{restart_does, restart_next, restart_none, run_down_does, run_down_next}
use Rattle.statement_steps.proofs.Hearing.{restart_up, run_down_up}
use Rattle.statement_steps.proofs.Keeping.{within_begun}
use Rattle.statement_steps.proofs.Places.{find_at}
use Rattle.statement_steps.proofs.Rising.{up_moved, up_next, up_put}
use Rattle.statement_steps.proofs.Stepping.{settle_asking, settle_restarting, settle_running_down}
use Rattle.statement_steps.proofs.Turning.{through_all, through_ended, through_here, through_none}
use Rattle.run_nodes.specs.Names.{AreApart}
use Rattle.run_nodes.specs.Phases.{AreTold, Done, Ended, Enters, GoesUp, PartsDone}
use Rattle.run_nodes.specs.Tasks.{DoesTask}
use Rattle.run_nodes.specs.Together.{ServesTogether, StandsTogether}
use Rattle.run_nodes.specs.Told.{kept_names}
use Rattle.run_nodes.specs.Untold.{BootsUnknown}
use Rattle.run_nodes.proofs.Places.{StandsAt, disk_found, disk_there, found, it, names_same, together_put, world_apart}
use Rattle.run_nodes.proofs.Serving.{performed, stands_up}

-- A settling begins.
pub settle_enters : (logs : List CallLog) (w : World) (ks : List NodeState) (s : SharedState) → AreApart (kept_names ks) → StandsTogether logs ks s w → AllKept w.shared w.nodes → Enters logs w (begun_with Settle w) ks (record s { in_use = true })
settle_enters logs w ks s apart h kept = record {
  stands = record { nodes = h.nodes; disks = h.disks; shared = record { labels = h.shared.labels; in_use = refl; wire = h.shared.wire } };
  within = within_begun Settle w (world_apart logs ks s w h apart) kept;
}

pub all_told : (w : World) → (BootsUnknown w Settle → ⊥) → AreTold (begun_with Settle w)
all_told w never node n there untold = never (node, n, there, untold)

-- a phase begins
abbrev pub goes_none : (parts : Node → List Part) (logs : List CallLog) (w u : World) (a : Shown) (ks : List NodeState) (s : SharedState) → Enters logs w u ks s → PartsDone parts logs w u 0 a a ks s
goes_none parts logs w u a ks s h = record { lines = []; world = u; through = through_none w.disks parts u; stands = h.stands; within = h.within; emits = emits_nothing a }

pub as_many : (logs : List CallLog) (ks : List NodeState) (s : SharedState) (v : World) → StandsTogether logs ks s v → length v.nodes ≡ length (kept_names ks)
as_many logs ks s v h = sym (length-map v.nodes (λ (n : Node). n.name)) ∙ ap length (names_same logs ks v.nodes h.nodes)

-- as many nodes stand behind each part
pub same_many : (parts : Node → List Part) (logs : List CallLog) (w u : World) (place : ℕ) (a b : Shown) (ks ms : List NodeState) (s t : SharedState) → Enters logs w u ms t → kept_names ks ≡ kept_names ms → PartsDone parts logs w u place a b ks s → length u.nodes ≡ length (kept_names ks)
same_many parts logs w u place a b ks ms s t h same g = as_many logs ms t u h.stands ∙ ap length (sym same)

module _ (parts : Node → List Part) (logs : List CallLog) (w u : World) (place : ℕ) (a b : Shown) (ks : List NodeState) (s : SharedState) (apart : AreApart (kept_names ks)) (g : PartsDone parts logs w u place a b ks s) (k : NodeState) (e : slice_get ks place ≡ Some k) where
  abbrev pub here : StandsAt logs g.world.nodes place k
  here = it logs ks s g.world g.stands apart place k e

  pub node_up : here.node.up ≡ is_up k.place
  node_up = stands_up here.log k here.node here.stands

  pub counts_there : slice_get g.world.disks place ≡ Some (counts_of (disk_in k.place))
  counts_there = disk_there logs ks s g.world g.stands apart place k e

-- All nodes did their parts.
pub done_all : (parts : Node → List Part) (logs : List CallLog) (w u : World) (place : ℕ) (a b : Shown) (ks : List NodeState) (s : SharedState) (g : PartsDone parts logs w u place a b ks s) → length u.nodes ≤ place → AreUp g.world.nodes → Done parts logs w u a b ks s
done_all parts logs w u place a b ks s g over up = record { lines = g.lines; world = g.world; does = through_all w.disks parts u place g.lines g.world g.through over; stands = g.stands; within = g.within; up = up; emits = g.emits }

-- Nodes are booted: one is up,
pub restart_goes_up : (logs : List CallLog) (w : World) (place : ℕ) (a b : Shown) (ks : List NodeState) (s : SharedState) → AreApart (kept_names ks) → (g : GoesUp restart_of logs w (begun_with Settle w) place place a b ks s) → (k : NodeState) → slice_get ks place ≡ Some k → is_up k.place ≡ true → GoesUp restart_of logs w (begun_with Settle w) (place + 1) (place + 1) a b ks s
restart_goes_up logs w place a b ks s apart x k e up =
    let g = x.goes in
    let i = here restart_of logs w (begun_with Settle w) place a b ks s apart g k e in
    let rises : i.node.up ≡ true = node_up restart_of logs w (begun_with Settle w) place a b ks s apart g k e ∙ up in
    record {
      goes = record {
        lines = g.lines;
        world = g.world;
        through = subst (λ p. Through w.disks restart_of (begun_with Settle w) p g.lines g.world) (sym (add-one place)) (restart_none w place g.lines g.world i.node g.through i.at rises);
        stands = g.stands;
        within = g.within;
        emits = g.emits;
      };
      up = subst (λ p. AreUp (take p g.world.nodes)) (sym (add-one place)) (up_next g.world.nodes place i.node x.up i.at rises);
    }

-- a boot is promised of it
restart_may : (logs : List CallLog) (w : World) (place : ℕ) (a b : Shown) (ks : List NodeState) (s : SharedState) (apart : AreApart (kept_names ks)) (g : PartsDone restart_of logs w (begun_with Settle w) place a b ks s) (k : NodeState) (e : slice_get ks place ≡ Some k) → NamesApart w.nodes → AreTold (begun_with Settle w) → is_up k.place ≡ false →
    IsPromised Restarts (here restart_of logs w (begun_with Settle w) place a b ks s apart g k e).node
restart_may logs w place a b ks s apart g k e differ told down unknown =
    let i = here restart_of logs w (begun_with Settle w) place a b ks s apart g k e in
    let before : slice_get w.nodes place ≡ Some i.node = through_here w.disks restart_of (begun_with Settle w) place g.lines g.world g.through ∙ i.at in
    let is_down : i.node.up ≡ false = node_up restart_of logs w (begun_with Settle w) place a b ks s apart g k e ∙ down in
    by i.node.unmade refl (λ made. told i.node.name i.node (find_at w.nodes place i.node differ before) (record { down = is_down; unknown = unknown; made = made }))
  where
    by : (m : Bool) → (here restart_of logs w (begun_with Settle w) place a b ks s apart g k e).node.unmade ≡ m → ((here restart_of logs w (begun_with Settle w) place a b ks s apart g k e).node.unmade ≡ false → ⊥) → (here restart_of logs w (begun_with Settle w) place a b ks s apart g k e).node.unmade ≡ true
    by true f never = f
    by false f never = absurd (never f)

-- one comes up,
pub restart_goes_on : StaysWithin → (logs : List CallLog) (w : World) (place : ℕ) (a x b : Shown) (ks : List NodeState) (s : SharedState) (ls : List NodeState) (t : SharedState) → AreApart (kept_names ks) → NamesApart w.nodes → AreTold (begun_with Settle w) → GoesUp restart_of logs w (begun_with Settle w) place place a x ks s →
    (d : DoesTask place Restarts false false ks s x b ls t) → is_up d.old.place ≡ false → GoesUp restart_of logs w (begun_with Settle w) (place + 1) (place + 1) a b ls t
restart_goes_on stays logs w place a x b ks s ls t apart differ told y d down =
    let g = y.goes in
    let u = begun_with Settle w in
    let i = here restart_of logs w u place a x ks s apart g d.old d.here in
    let p = performed logs ks s g.world g.stands apart g.within.kept place d.old d.here Restarts false false x b d.new t d.performs (restart_may logs w place a x ks s apart g d.old d.here differ told down) in
    let old = counts_of (disk_in d.old.place) in
    let new = counts_of (disk_in d.new.place) in
    let is_down : i.node.up ≡ false = node_up restart_of logs w u place a x ks s apart g d.old d.here ∙ down in
    let disk = counts_there restart_of logs w u place a x ks s apart g d.old d.here in
    let named = i.stands.name in
    record {
      goes = record {
        lines = g.lines ++ p.lines;
        world = moved g.world i.node.name p.node new p.shared;
        through = subst (λ q. Through w.disks restart_of u q (g.lines ++ p.lines) (moved g.world i.node.name p.node new p.shared)) (sym (add-one place))
            (restart_next w place g.lines g.world i.node p.node old new p.lines p.answer p.shared g.through g.within i.at is_down disk p.step);
        stands = subst (λ ms. StandsTogether logs ms t (moved g.world i.node.name p.node new p.shared)) (sym d.put)
            (subst (λ n. StandsTogether logs (slice_set ks place d.new) t (moved g.world n p.node new p.shared)) (sym named) (together_put logs ks s g.world g.stands apart place d.old d.here d.new p.node t p.shared p.stands p.alike));
        within = subst (λ n. IsWithin w.disks (moved g.world n p.node new p.shared)) (sym named)
            (stays w.disks g.world d.old.name i.node p.node old new Restarts p.lines p.answer false p.shared g.within (found logs ks s g.world g.stands apart place d.old d.here) (disk_found logs ks s g.world g.stands apart place d.old d.here) p.step);
        emits = emits_on a x b g.lines p.lines g.emits p.emits;
      };
      up = subst (λ q. AreUp (take q (moved g.world i.node.name p.node new p.shared).nodes)) (sym (add-one place))
          (up_moved g.world.nodes place i.node p.node g.within.apart y.up i.at (restart_up g.world.shared i.node old p.lines p.answer p.node p.shared new p.step));
    }

-- or does not.
pub restart_ended : (logs : List CallLog) (w : World) (place : ℕ) (a x b : Shown) (ks : List NodeState) (s : SharedState) (ls : List NodeState) (t : SharedState) → AreApart (kept_names ks) → NamesApart w.nodes → AreTold (begun_with Settle w) → PartsDone restart_of logs w (begun_with Settle w) place a x ks s →
    (d : DoesTask place Restarts true true ks s x b ls t) → is_up d.old.place ≡ false → Ended restart_of logs w (begun_with Settle w) a b ls t
restart_ended logs w place a x b ks s ls t apart differ told g d down =
    let u = begun_with Settle w in
    let i = here restart_of logs w u place a x ks s apart g d.old d.here in
    let p = performed logs ks s g.world g.stands apart g.within.kept place d.old d.here Restarts true true x b d.new t d.performs (restart_may logs w place a x ks s apart g d.old d.here differ told down) in
    let old = counts_of (disk_in d.old.place) in
    let new = counts_of (disk_in d.new.place) in
    let is_down : i.node.up ≡ false = node_up restart_of logs w u place a x ks s apart g d.old d.here ∙ down in
    let disk = counts_there restart_of logs w u place a x ks s apart g d.old d.here in
    record {
      lines = g.lines ++ p.lines;
      answer = p.answer;
      world = moved g.world i.node.name p.node new p.shared;
      does = through_ended w.disks restart_of u place g.lines g.world i.node p.lines p.answer (moved g.world i.node.name p.node new p.shared) g.through i.at
          (restart_does w place g.lines g.world i.node p.node old new p.lines p.answer true p.shared g.through g.within i.at is_down disk p.step);
      stands = subst (λ ms. StandsTogether logs ms t (moved g.world i.node.name p.node new p.shared)) (sym d.put)
          (subst (λ n. StandsTogether logs (slice_set ks place d.new) t (moved g.world n p.node new p.shared)) (sym i.stands.name) (together_put logs ks s g.world g.stands apart place d.old d.here d.new p.node t p.shared p.stands p.alike));
      emits = subst (λ ns. Emits a ns b) (sym (append_assoc g.lines p.lines (p.answer ∷ []))) (emits_on a x b g.lines (p.lines ++ p.answer ∷ []) g.emits p.emits);
    }

-- Each aborts what is not prepared: one does,
pub run_down_goes_on : StaysWithin → (logs : List CallLog) (w u : World) (place : ℕ) (a x b : Shown) (ks : List NodeState) (s : SharedState) (ls : List NodeState) (t : SharedState) → AreApart (kept_names ks) → (g : PartsDone run_down_of logs w u place a x ks s) → AreUp g.world.nodes → DoesTask place RunsDown false false ks s x b ls t →
    (h : PartsDone run_down_of logs w u (place + 1) a b ls t) × AreUp h.world.nodes
run_down_goes_on stays logs w u place a x b ks s ls t apart g up d =
    let i = here run_down_of logs w u place a x ks s apart g d.old d.here in
    let p = performed logs ks s g.world g.stands apart g.within.kept place d.old d.here RunsDown false false x b d.new t d.performs tt in
    let old = counts_of (disk_in d.old.place) in
    let new = counts_of (disk_in d.new.place) in
    let disk = counts_there run_down_of logs w u place a x ks s apart g d.old d.here in
    let named = i.stands.name in (
      record {
        lines = g.lines ++ p.lines;
        world = moved g.world i.node.name p.node new p.shared;
        through = subst (λ q. Through w.disks run_down_of u q (g.lines ++ p.lines) (moved g.world i.node.name p.node new p.shared)) (sym (add-one place))
            (run_down_next w.disks u place g.lines g.world i.node p.node old new p.lines p.answer p.shared g.through g.within i.at disk p.step);
        stands = subst (λ ms. StandsTogether logs ms t (moved g.world i.node.name p.node new p.shared)) (sym d.put)
            (subst (λ n. StandsTogether logs (slice_set ks place d.new) t (moved g.world n p.node new p.shared)) (sym named) (together_put logs ks s g.world g.stands apart place d.old d.here d.new p.node t p.shared p.stands p.alike));
        within = subst (λ n. IsWithin w.disks (moved g.world n p.node new p.shared)) (sym named)
            (stays w.disks g.world d.old.name i.node p.node old new RunsDown p.lines p.answer false p.shared g.within (found logs ks s g.world g.stands apart place d.old d.here) (disk_found logs ks s g.world g.stands apart place d.old d.here) p.step);
        emits = emits_on a x b g.lines p.lines g.emits p.emits;
      },
      up_put i.node.name p.node g.world.nodes (run_down_up g.world.shared i.node old p.lines p.answer p.node p.shared new p.step) up,
    )

-- or the statement ends with it.
pub run_down_ended : (logs : List CallLog) (w u : World) (place : ℕ) (a x b : Shown) (ks : List NodeState) (s : SharedState) (ls : List NodeState) (t : SharedState) → AreApart (kept_names ks) → PartsDone run_down_of logs w u place a x ks s → DoesTask place RunsDown true true ks s x b ls t → Ended run_down_of logs w u a b ls t
run_down_ended logs w u place a x b ks s ls t apart g d =
    let i = here run_down_of logs w u place a x ks s apart g d.old d.here in
    let p = performed logs ks s g.world g.stands apart g.within.kept place d.old d.here RunsDown true true x b d.new t d.performs tt in
    let old = counts_of (disk_in d.old.place) in
    let new = counts_of (disk_in d.new.place) in
    let disk = counts_there run_down_of logs w u place a x ks s apart g d.old d.here in
    record {
      lines = g.lines ++ p.lines;
      answer = p.answer;
      world = moved g.world i.node.name p.node new p.shared;
      does = through_ended w.disks run_down_of u place g.lines g.world i.node p.lines p.answer (moved g.world i.node.name p.node new p.shared) g.through i.at
          (run_down_does w.disks place g.world i.node p.node old new p.lines p.answer true p.shared g.within i.at disk p.step);
      stands = subst (λ ms. StandsTogether logs ms t (moved g.world i.node.name p.node new p.shared)) (sym d.put)
          (subst (λ n. StandsTogether logs (slice_set ks place d.new) t (moved g.world n p.node new p.shared)) (sym i.stands.name) (together_put logs ks s g.world g.stands apart place d.old d.here d.new p.node t p.shared p.stands p.alike));
      emits = subst (λ ns. Emits a ns b) (sym (append_assoc g.lines p.lines (p.answer ∷ []))) (emits_on a x b g.lines (p.lines ++ p.answer ∷ []) g.emits p.emits);
    }

-- The phases make the step.
pub ended_restarting : (logs : List CallLog) (w : World) (a b : Shown) (ks : List NodeState) (s : SharedState) → Ended restart_of logs w (begun_with Settle w) a b ks s → ServesTogether logs w Settle a b ks s
ended_restarting logs w a b ks s h = record { lines = h.lines ++ h.answer ∷ []; world = h.world; step = settle_restarting w h.world h.lines h.answer h.does; emits = h.emits; stands = h.stands }

pub ended_running_down : (logs : List CallLog) (w : World) (a x b : Shown) (ms ks : List NodeState) (t s : SharedState) → (g : Done restart_of logs w (begun_with Settle w) a x ms t) → Ended run_down_of logs w g.world x b ks s → ServesTogether logs w Settle a b ks s
ended_running_down logs w a x b ms ks t s g h = record {
  lines = (g.lines ++ h.lines) ++ h.answer ∷ [];
  world = h.world;
  step = settle_running_down w g.world h.world g.lines h.lines h.answer g.does h.does;
  emits = subst (λ ns. Emits a ns b) (sym (append_assoc g.lines h.lines (h.answer ∷ []))) (emits_on a x b g.lines (h.lines ++ h.answer ∷ []) g.emits h.emits);
  stands = h.stands;
}

pub ended_asking : (logs : List CallLog) (w : World) (a x y b : Shown) (ms ns ks : List NodeState) (t r s : SharedState) → (g : Done restart_of logs w (begun_with Settle w) a x ms t) → (h : Done run_down_of logs w g.world x y ns r) → Ended asks_of logs w h.world y b ks s → ServesTogether logs w Settle a b ks s
ended_asking logs w a x y b ms ns ks t r s g h j = record {
  lines = (g.lines ++ (h.lines ++ j.lines)) ++ j.answer ∷ [];
  world = j.world;
  step = settle_asking w g.world h.world j.world g.lines h.lines j.lines true j.answer g.does h.does j.does;
  emits = subst (λ ls. Emits a ls b) (sym (append_assoc g.lines (h.lines ++ j.lines) (j.answer ∷ []) ∙ ap (λ ls. g.lines ++ ls) (append_assoc h.lines j.lines (j.answer ∷ []))))
      (emits_on a x b g.lines (h.lines ++ (j.lines ++ j.answer ∷ [])) g.emits (emits_on x y b h.lines (j.lines ++ j.answer ∷ []) h.emits j.emits));
  stands = j.stands;
}

pub done_settling : (logs : List CallLog) (w : World) (a x y z b : Shown) (ms ns ks : List NodeState) (t r s : SharedState) → (g : Done restart_of logs w (begun_with Settle w) a x ms t) → (h : Done run_down_of logs w g.world x y ns r) → Done asks_of logs w h.world y z ks s → Emits z (Normal ∷ []) b → ServesTogether logs w Settle a b ks s
done_settling logs w a x y z b ms ns ks t r s g h j emits = record {
  lines = (g.lines ++ (h.lines ++ j.lines)) ++ Normal ∷ [];
  world = j.world;
  step = settle_asking w g.world h.world j.world g.lines h.lines j.lines false Normal g.does h.does j.does;
  emits = emits_on a z b (g.lines ++ (h.lines ++ j.lines)) (Normal ∷ []) (emits_on a x z g.lines (h.lines ++ j.lines) g.emits (emits_on x y z h.lines j.lines h.emits j.emits)) emits;
  stands = j.stands;
}
