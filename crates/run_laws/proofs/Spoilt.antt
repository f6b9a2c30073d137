-- A disk that a failed INIT spoiled: its node stays down, until an INIT makes its volume.
use Rattle.std.specs.Prelude.{◌||◌, not}
use Rattle.std.specs.List.{last_or}
use Rattle.std.proofs.Common.{◌≡◌, ℕ, zero, suc, Bool, true, false, List, [], ◌∷◌, ◌++◌, Option, Some, None, refl, ap, sym, subst, ◌∙◌}
use Rattle.std.proofs.lemmas.Bool.{both_ways}
use Rattle.std.proofs.lemmas.Slice.Eq.{bytes_eq-Decides}
use Rattle.run_said.specs.transcript_model.Lines as line
use Rattle.run_said.specs.transcript_model.Lines.{Cause, Line}
use Rattle.run_said.specs.script_model.Statements.{At, Bad, Blank, Boot, Clock, Deliver, Fuse, Init, LinkDown, Reading, Request, Says, Settle, Statement}
use Rattle.run_said.specs.script_model.Grammar.{reading}
use Rattle.run_said.specs.run_model.World.{DiskCounts, Node, Shared, Unknown, World, find_node, powered}
use Rattle.run_said.specs.run_model.Operations.{first_of, refused_if}
use Rattle.run_said.specs.run_model.Answers.{Hears, LosesLink, Restarts, RunsDown, Serves, Service, Takes, Task, Ticks, refused_before_reading, service, task_service}
use Rattle.run_said.specs.run_model.StepLaws.{is_refusal}
use Rattle.run_said.specs.run_model.Steps.{Choice, Cut, ServiceAllowed, TaskAllowed, TaskEffect, Unpowered, Whole, WithoutMemory, cut, ready_node, service_effect, task_effect, whole, with_unknown_volume}
use Rattle.run_said.specs.run_model.Statements.{Allowed, Begins, Part, PartEffect, Phases, RoseAt, Step, begun_with, part_effect, phases_of, refused_at_once, stops_at}
use Rattle.run_said.specs.run_model.Transcript.{Entry, Turn}
use Rattle.run_said.proofs.run_model.CauseLemmas.{refuses_first}
use Rattle.run_said.proofs.run_model.NodeLists.{some_is}
use Rattle.run_said.proofs.run_model.PartLemmas.{phases_fold}
use Rattle.run_said.proofs.run_model.PartTasks.{View, Doing, Fixed, view}
use Rattle.run_said.proofs.run_model.TaskLemmas.{effect_name}
use Rattle.run_agreement.proofs.Tasks.{awake_refused, none_some}
use Rattle.run_agreement.proofs.Told.{IsOther, is_init, is_making, other_parts, other_task}
use Rattle.run_laws.specs.Accounts.{made_anew}
use Rattle.run_laws.proofs.Named.{Ended, Refused, Turned, ended}
use Rattle.run_laws.proofs.SoundWorlds.{Beside, Changed, Here, changed}

-- it is down, and nothing is known of its disk since an INIT failed
pub record IsShut (n : Node) : Type 0 where
  pub unmade : n.unmade ≡ true
  pub down : n.up ≡ false
  pub volume : n.durable.volume ≡ Unknown

-- Tasks.

-- a task that is refused leaves the node as it was
refused_shut : (s : Shared) (stops : ℕ) (n : Node) (e : Service) (rises : Cause → Type 0) (l : Line) → refused_before_reading s n e ≡ Some l → (c : Choice) → ServiceAllowed s stops n e rises c → IsShut n → IsShut (service_effect s stops n e c).node
refused_shut s stops n e rises l is (Whole o) may h = subst (λ (q : Option Line). IsShut (whole s n (ready_node o stops e n) e q).node) (sym is) h
refused_shut s stops n e rises l is WithoutMemory may h = h
refused_shut s stops n e rises l is Unpowered may h = absurd (none_some l (refused_before_reading s n e) is may.0)
refused_shut s stops n e rises l is (Cut o done begun cause) may h = absurd (none_some l (refused_before_reading s n e) is may.0)

down_refused : (s : Shared) (n : Node) (e : Service) → n.up ≡ false → e.while_down ≡ false → refused_before_reading s n e ≡ Some line.NodeDown
down_refused s n e down off = ap (λ b. first_of (refused_if (not (b || e.while_down)) line.NodeDown) (e.refused_before_reading s n)) down ∙ ap (λ b. first_of (refused_if (not (false || b)) line.NodeDown) (e.refused_before_reading s n)) off

-- whether a request may be served by a node that is down
abbrev is_awake : Request → Bool
is_awake (Init slots journal) = true
is_awake Boot = true
is_awake (Fuse writes choice) = true
is_awake (Clock now) = true
is_awake _ = false

asleep : (r : Request) → is_awake r ≡ false → (service r).while_down ≡ false
asleep (Init slots journal) e = let no : ⊥ = cc in absurd no
asleep Boot e = let no : ⊥ = cc in absurd no
asleep (Fuse writes choice) e = let no : ⊥ = cc in absurd no
asleep (Clock now) e = let no : ⊥ = cc in absurd no
asleep _ e = refl

module _ (s : Shared) (stops : ℕ) (n : Node) (rises : Cause → Type 0) (h : IsShut n) where
  plain_shut : (t : Task) → (task_service t).while_down ≡ false → (c : Choice) → TaskAllowed s stops n t rises c → IsShut (task_effect s stops n t c).node
  plain_shut t off c may = refused_shut s stops n (task_service t) rises line.NodeDown (down_refused s n (task_service t) h.down off) c may h

  boot_shut : (c : Choice) → TaskAllowed s stops n (Serves Boot) rises c → IsShut (task_effect s stops n (Serves Boot) c).node
  boot_shut c may = refused_shut s stops n (service Boot) rises line.NotInitialized refused c may h
    where
      refused : refused_before_reading s n (service Boot) ≡ Some line.NotInitialized
      refused = λ i. first_of (refused_if (not (h.down i || true)) line.NodeDown) (first_of (refused_if (h.down i) line.NodeUp) (refused_if (h.unmade i) line.NotInitialized))

  restart_shut : (c : Choice) → TaskAllowed s stops n Restarts rises c → IsShut (task_effect s stops n Restarts c).node
  restart_shut c may = refused_shut s stops n (task_service Restarts) rises (line.NotInitializedAt n.name) refused c may h
    where
      refused : refused_before_reading s n (task_service Restarts) ≡ Some (line.NotInitializedAt n.name)
      refused = λ i. first_of (refused_if (not (h.down i || true)) line.NodeDown) (first_of (refused_if (h.down i) line.NodeUp) (refused_if (h.unmade i) (line.NotInitializedAt n.name)))

  fuse_shut : (writes choice : ℕ) (c : Choice) → TaskAllowed s stops n (Serves (Fuse writes choice)) rises c → IsShut (task_effect s stops n (Serves (Fuse writes choice)) c).node
  fuse_shut writes choice (Whole o) may =
      let e = service (Fuse writes choice) in
      subst (λ (l : Option Line). IsShut (whole s n n e l).node) (sym (awake_refused s n e refl)) (record { unmade = h.unmade; down = h.down; volume = h.volume })
  fuse_shut writes choice WithoutMemory may = h
  fuse_shut writes choice Unpowered may = absurd (let f : false ≡ true = may.1 in cc)
  fuse_shut writes choice (Cut o done begun cause) may = absurd (let f : false ≡ true = may.1 in cc)

  clock_shut : (now : ℕ) (c : Choice) → TaskAllowed s stops n (Serves (Clock now)) rises c → IsShut (task_effect s stops n (Serves (Clock now)) c).node
  clock_shut now (Whole o) may =
      let e = service (Clock now) in
      subst (λ (l : Option Line). IsShut (whole s n n e l).node) (sym (awake_refused s n e refl)) (record { unmade = h.unmade; down = h.down; volume = h.volume })
  clock_shut now WithoutMemory may = h
  clock_shut now Unpowered may = absurd (let f : false ≡ true = may.1 in cc)
  clock_shut now (Cut o done begun cause) may = absurd (let f : false ≡ true = may.1 in cc)

  request_shut : (r : Request) → is_init (Serves r) ≡ false → (c : Choice) → TaskAllowed s stops n (Serves r) rises c → IsShut (task_effect s stops n (Serves r) c).node
  request_shut (Init slots journal) other c may = let no : ⊥ = cc in absurd no
  request_shut Boot other c may = boot_shut c may
  request_shut (Fuse writes choice) other c may = fuse_shut writes choice c may
  request_shut (Clock now) other c may = clock_shut now c may
  request_shut r other c may = plain_shut (Serves r) (asleep r refl) c may

  task_shut : (t : Task) → is_init t ≡ false → (c : Choice) → TaskAllowed s stops n t rises c → IsShut (task_effect s stops n t c).node
  task_shut (Serves r) other c may = request_shut r other c may
  task_shut Restarts other c may = restart_shut c may
  task_shut Ticks other c may = plain_shut Ticks refl c may
  task_shut (Takes m) other c may = plain_shut (Takes m) refl c may
  task_shut (Hears m) other c may = plain_shut (Hears m) refl c may
  task_shut (LosesLink node) other c may = plain_shut (LosesLink node) refl c may
  task_shut RunsDown other c may = plain_shut RunsDown refl c may

-- An INIT: it succeeds, its node is such a one behind it, or it is refused and leaves the node.
data Inits (n : Node) (f : TaskEffect) : Type 0 where
  Made : f.lines ++ f.answer ∷ [] ≡ line.Normal ∷ [] → Inits n f
  Shut : IsShut f.node → Inits n f
  Left : is_refusal f.answer ≡ true → f.node ≡ n → Inits n f

init_leaves : (s : Shared) (stops : ℕ) (n : Node) (slots journal : ℕ) (rises : Cause → Type 0) (c : Choice) → TaskAllowed s stops n (Serves (Init slots journal)) rises c → Inits n (task_effect s stops n (Serves (Init slots journal)) c)
init_leaves s stops n slots journal rises (Whole o) may = go (refused_before_reading s n (service (Init slots journal))) refl
  where
    go : (l : Option Line) → refused_before_reading s n (service (Init slots journal)) ≡ l → Inits n (whole s n (with_unknown_volume true (powered o stops n)) (service (Init slots journal)) l)
    go (Some refusal) is = Left ((refuses_first s n (Serves (Init slots journal))).says refusal is) refl
    go None is = Made refl
init_leaves s stops n slots journal rises WithoutMemory may = Left refl refl
init_leaves s stops n slots journal rises Unpowered may = Shut (record { unmade = refl; down = refl; volume = refl })
init_leaves s stops n slots journal rises (Cut o done begun cause) may = Shut (go done begun)
  where
    ready : Node
    ready = with_unknown_volume true (powered o stops n)

    go : (k : ℕ) (b : Bool) → IsShut (cut s (with_unknown_volume true (powered o stops n)) (service (Init slots journal)) [] k b cause).node
    go zero true = record { unmade = refl; down = refl; volume = refl }
    go zero false = record { unmade = refl; down = refl; volume = refl }
    go (suc k) true = record { unmade = refl; down = refl; volume = refl }
    go (suc k) false = record { unmade = refl; down = refl; volume = refl }

-- In worlds.

module _ (node : List ℕ) where
  -- the node of this name, where there is one, is such a one
  abbrev pub Shuts : World → Type 0
  Shuts w = (n : Node) → find_node node w.nodes ≡ Some n → IsShut n

  part_shuts : (after : List DiskCounts) (w : World) (p : Part) (c : Choice) → IsOther p → Allowed w p after c → Shuts w → Shuts (part_effect w p c).world
  part_shuts after w p c other may h = by (view w p)
    where
      by : View w p → Shuts (part_effect w p c).world
      by (Fixed answer ends kind is) = subst (λ (f : PartEffect). Shuts f.world) (sym (is c)) h
      by (Doing place t n named found does allowed) =
          let e : TaskEffect = task_effect w.shared (stops_at place w) n t c in
          subst (λ (f : PartEffect). Shuts f.world) (sym (does c)) (λ m is. at m (changed place node n w.nodes e.node m (effect_name w.shared (stops_at place w) n t c) found is))
        where
          at : (m : Node) → Changed place node n w.nodes (task_effect w.shared (stops_at place w) n t c).node m → IsShut m
          at m (Here same is) = subst IsShut (sym is)
              (task_shut w.shared (stops_at place w) n (λ cause. RoseAt w place cause after) (h n (subst (λ x. find_node x w.nodes ≡ Some n) (sym same) found)) t (other_task w p place t named other) c (allowed after c may))
          at m (Beside apart is) = h m is

  begun_shuts : (s : Statement) (w : World) → Shuts w → Shuts (begun_with s w)
  begun_shuts Settle w h = h
  begun_shuts (At other request) w h = h
  begun_shuts (Deliver number) w h = h
  begun_shuts (LinkDown a b) w h = h

  other_shuts : (w v : World) (s : Statement) (lines : List Line) → is_making s ≡ false → Step w s lines v → Shuts w → Shuts v
  other_shuts w v s lines off step h = subst Shuts (sym step.goes) (by (refused_at_once w s) step.does)
    where
      by : (o : Option Line) → Begins o (Phases (phases_of s) v.disks (begun_with s w) line.Normal) w step.events step.answer step.world → Shuts step.world
      by (Some refusal) d = subst Shuts (sym d.2) h
      by None d = phases_fold v.disks IsOther (λ given. Unit {0}) (λ u rest answer x. Shuts u → Shuts x) (λ u given q k. k)
          (λ u p c ok allowed ends k. part_shuts v.disks u p c ok allowed k)
          (λ u p c ok allowed on. (tt, λ rest answer x more k. more (part_shuts v.disks u p c ok allowed k)))
          (phases_of s) (other_parts s off) (begun_with s w) line.Normal step.events step.answer step.world tt d (begun_shuts s w h)

  -- an INIT that does not make its volume
  init_shuts : (w v : World) (place : List ℕ) (slots journal : ℕ) (lines : List Line) → Step w (At place (Init slots journal)) lines v → made_anew node (Says (At place (Init slots journal))) lines ≡ false → Shuts w → Shuts v
  init_shuts w v place slots journal lines step unmade h = go (ended w v (At place (Init slots journal)) lines place (Serves (Init slots journal)) refl step)
    where
      go : Ended w v place (Serves (Init slots journal)) lines → Shuts v
      go (Refused refusal is shows goes) = subst Shuts (sym goes) h
      go (Turned n found c allowed shows goes) = subst Shuts (sym goes) (λ m is. at m (changed place node n w.nodes e.node m (effect_name w.shared (stops_at place w) n (Serves (Init slots journal)) c) found is))
        where
          e : TaskEffect
          e = task_effect w.shared (stops_at place w) n (Serves (Init slots journal)) c

          own : place ≡ node → Inits n (task_effect w.shared (stops_at place w) n (Serves (Init slots journal)) c) → IsShut (task_effect w.shared (stops_at place w) n (Serves (Init slots journal)) c).node
          own same (Made is) = absurd (both_ways _ unmade (ap (made_anew node (Says (At place (Init slots journal)))) (shows ∙ is) ∙ (bytes_eq-Decides place node).1 same))
          own same (Shut k) = k
          own same (Left refusal is) = subst IsShut (sym is) (h n (subst (λ x. find_node x w.nodes ≡ Some n) same found))

          at : (m : Node) → Changed place node n w.nodes (task_effect w.shared (stops_at place w) n (Serves (Init slots journal)) c).node m → IsShut m
          at m (Here same is) = subst IsShut (sym is) (own (sym same) (init_leaves w.shared (stops_at place w) n slots journal (λ cause. RoseAt w place cause v.disks) c allowed))
          at m (Beside apart is) = h m is

  -- So it stays, until an INIT makes its volume;
  pub turn_shuts : (w v : World) (r : Reading) (lines : List Line) → Turn w r lines v → made_anew node r lines ≡ false → Shuts w → Shuts v
  turn_shuts w v Blank lines turn unmade h = subst Shuts (sym turn.1) h
  turn_shuts w v (Bad column) lines turn unmade h = absurd turn
  turn_shuts w v (Says (At place (Init slots journal))) lines step unmade h = init_shuts w v place slots journal lines step unmade h
  turn_shuts w v (Says (At place r)) lines step unmade h = other_shuts w v (At place r) lines refl step h
  turn_shuts w v (Says s) lines step unmade h = other_shuts w v s lines refl step h

  -- and so it is behind one that a failure ended.
  pub spoilt_shuts : (w v : World) (e : Entry) (slots journal : ℕ) (cause : Cause) → reading e.source.text ≡ Says (At node (Init slots journal)) → last_or None e.lines ≡ Some (line.Broken cause) → Turn w (reading e.source.text) e.lines v → Shuts v
  spoilt_shuts w v e slots journal cause says last turn = go (ended w v (At node (Init slots journal)) e.lines node (Serves (Init slots journal)) refl (subst (λ (q : Reading). Turn w q e.lines v) says turn))
    where
      no_other : (l : Line) (front : List Line) → e.lines ≡ front ++ l ∷ [] → is_refusal l ≡ true → ⊥
      no_other l front shows is =
          let same : l ≡ line.Broken cause = some_is l (line.Broken cause) (sym (last_behind front l) ∙ sym (ap (λ (ls : List Line). last_or None ls) shows) ∙ last) in
          let clash : true ≡ false = sym is ∙ ap is_refusal same in
          let no : ⊥ = cc in
          no
        where
          last_behind : (xs : List Line) (x : Line) → last_or None (xs ++ x ∷ []) ≡ Some x
          last_behind [] x = refl
          last_behind (y ∷ []) x = refl
          last_behind (y ∷ z ∷ xs) x = last_behind (z ∷ xs) x

      go : Ended w v node (Serves (Init slots journal)) e.lines → Shuts v
      go (Refused refusal is shows goes) = absurd (no_other refusal [] shows is)
      go (Turned n found c allowed shows goes) = subst Shuts (sym goes) (λ m is. at m (changed node node n w.nodes x.node m (effect_name w.shared (stops_at node w) n (Serves (Init slots journal)) c) found is))
        where
          x : TaskEffect
          x = task_effect w.shared (stops_at node w) n (Serves (Init slots journal)) c

          own : Inits n (task_effect w.shared (stops_at node w) n (Serves (Init slots journal)) c) → IsShut (task_effect w.shared (stops_at node w) n (Serves (Init slots journal)) c).node
          own (Made is) =
              let normal : Some line.Normal ≡ Some (line.Broken cause) = sym (ap (λ (ls : List Line). last_or None ls) (shows ∙ is)) ∙ last in
              let no : ⊥ = cc in
              absurd no
          own (Shut k) = k
          own (Left refusal is) = absurd (no_other x.answer x.lines shows refusal)

          at : (m : Node) → Changed node node n w.nodes (task_effect w.shared (stops_at node w) n (Serves (Init slots journal)) c).node m → IsShut m
          at m (Here same is) = subst IsShut (sym is) (own (init_leaves w.shared (stops_at node w) n slots journal (λ cause. RoseAt w node cause v.disks) c allowed))
          at m (Beside apart is) = absurd (apart refl)
