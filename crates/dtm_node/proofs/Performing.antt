-- What a node that is up did for a task, as a step of the node of the world.
use Rattle.std.proofs.Common.{◌≡◌, ◌⊎◌, inl, inr, ℕ, zero, suc, ◌≤◌, List, [], ◌∷◌, ◌++◌, Bool, true, false, Option, Some, None, not, take, drop, is_some, if◌then◌else◌, refl, ◌∙◌, ap, sym, subst, append_assoc}
use Rattle.std.specs.Prelude.{◌||◌}
use Rattle.std.specs.List.{AllByRecursion}
use Rattle.block_disk.specs.Disk.{CallLog, DiskState}
use Rattle.careful_write.specs.declared.down.Down.{Down}
use Rattle.careful_write.specs.declared.down.Down.TheVariants as down
use Rattle.emitter_model.specs.Emitting.{Emits, Shown}
use Rattle.emitter_model.specs.transcript_model.Outside.{Rose}
use Rattle.emitter_model.specs.transcript_model.Lines as line
use Rattle.emitter_model.specs.transcript_model.Lines.{Cause, Line}
use Rattle.emitter_model.proofs.EmittingLemmas.{emits_on}
use Rattle.world_laws.specs.run_model.World.{Act, Arms, Boots, Changes, Clocks, ComesUp, Creates, Declares, Directs, Draws, Falls, Formats, Holds, Labels, Marks, Node, Numbers, Recovers, Saves, Shared, Tables, acted, fallen}
use Rattle.world_laws.specs.run_model.Answers.{Row, Service, Task, refused_before_reading, task_service, touches}
use Rattle.world_laws.specs.run_model.Operations.{first_of, refused_if}
use Rattle.world_laws.specs.run_model.Steps.{NodeStep, act_begun, count_of, lines_of_rows, node_after, node_after_rows, rows_if, shared_after_rows}
use Rattle.recovery_units.specs.volume_model.Volumes.{HasDisk}
use Rattle.recovery_units.specs.Uses.{Caused, DiskAdvances, IsCounted}
use Rattle.run_shared.specs.Sharing.{IsShared, SharedState}
use Rattle.node_requests.specs.node_table.Serving.{WasCut, WasRefused, WasServed, rows_at_risk, service_at}
use Rattle.node_requests.specs.node_table.Standing.{Up, UpRepresents}
use Rattle.dtm_node.specs.Causes.{cause_of}
use Rattle.node_requests.specs.node_standing.Keeping.{Performs}
use Rattle.node_requests.specs.Running.{name_of}
use Rattle.node_requests.specs.node_standing.Standing.{IsDown, IsRunning, NodeState, RepresentsNode, counts_of, disk_of, noted_all}
use Rattle.dtm_node.proofs.Stepping.{IsPlain, step_cut, step_done, step_early, step_lacking, step_late}

-- what is kept of a node that is up, and of one that went down
abbrev pub kept_up : List ℕ → ℕ → Up → NodeState
kept_up name clock r = record { name = name; unmade = false; clock = clock; place = IsRunning r }

abbrev pub kept_fallen : List ℕ → ℕ → DiskState → NodeState
kept_fallen name clock d = record { name = name; unmade = false; clock = clock; place = IsDown true d }

-- What acts leave of a node by which no volume is made, no disk armed and no clock set.
pub record Same (m n : Node) : Type 0 where
  pub name : m.name ≡ n.name
  pub blocks : m.blocks ≡ n.blocks
  pub clock : m.clock ≡ n.clock
  pub unmade : m.unmade ≡ n.unmade
  pub calls : m.calls ≡ n.calls

abbrev pub leaves_rest : Act → Bool
leaves_rest (Formats slots journal) = false
leaves_rest (Arms writes choice) = false
leaves_rest (Clocks now) = false
leaves_rest act = true

abbrev pub LeavesRest : Row → Type 0
LeavesRest r = (act : Act) → r.act ≡ Some act → leaves_rest act ≡ true

pub same_itself : (n : Node) → Same n n
same_itself n = record { name = refl; blocks = refl; clock = refl; unmade = refl; calls = refl }

acted_same : (act : Act) (n : Node) → leaves_rest act ≡ true → Same (acted act n) n
acted_same (Formats slots journal) n l = let f : ⊥ = cc in absurd f
acted_same (Arms writes choice) n l = let f : ⊥ = cc in absurd f
acted_same (Clocks now) n l = let f : ⊥ = cc in absurd f
acted_same Boots n l = record { name = refl; blocks = refl; clock = refl; unmade = refl; calls = refl }
acted_same ComesUp n l = record { name = refl; blocks = refl; clock = refl; unmade = refl; calls = refl }
acted_same (Creates place file) n l = record { name = refl; blocks = refl; clock = refl; unmade = refl; calls = refl }
acted_same (Marks file mark) n l = record { name = refl; blocks = refl; clock = refl; unmade = refl; calls = refl }
acted_same (Saves file start) n l = record { name = refl; blocks = refl; clock = refl; unmade = refl; calls = refl }
acted_same (Recovers file start buckets m) n l = record { name = refl; blocks = refl; clock = refl; unmade = refl; calls = refl }
acted_same Draws n l = record { name = refl; blocks = refl; clock = refl; unmade = refl; calls = refl }
acted_same (Labels label) n l = record { name = refl; blocks = refl; clock = refl; unmade = refl; calls = refl }
acted_same (Numbers label serial) n l = record { name = refl; blocks = refl; clock = refl; unmade = refl; calls = refl }
acted_same (Tables a moment) n l = record { name = refl; blocks = refl; clock = refl; unmade = refl; calls = refl }
acted_same (Changes tid serial file cs keys) n l = record { name = refl; blocks = refl; clock = refl; unmade = refl; calls = refl }
acted_same (Holds serial file keys) n l = record { name = refl; blocks = refl; clock = refl; unmade = refl; calls = refl }
acted_same (Declares rms) n l = record { name = refl; blocks = refl; clock = refl; unmade = refl; calls = refl }
acted_same (Directs file cs x) n l = record { name = refl; blocks = refl; clock = refl; unmade = refl; calls = refl }
acted_same Falls n l = record { name = refl; blocks = refl; clock = refl; unmade = refl; calls = refl }

pub same_on : (k m n : Node) → Same k m → Same m n → Same k n
same_on k m n f g = record { name = f.name ∙ g.name; blocks = f.blocks ∙ g.blocks; clock = f.clock ∙ g.clock; unmade = f.unmade ∙ g.unmade; calls = f.calls ∙ g.calls }

after_same : (o : Option Act) (n : Node) → ((act : Act) → o ≡ Some act → leaves_rest act ≡ true) → Same (node_after o n) n
after_same None n h = same_itself n
after_same (Some act) n h = acted_same act n (h act refl)

pub rows_same : (rs : List Row) (n : Node) → AllByRecursion LeavesRest rs → Same (node_after_rows rs n) n
rows_same [] n h = same_itself n
rows_same (r ∷ rs) n h = same_on (node_after_rows rs (node_after r.act n)) (node_after r.act n) n (rows_same rs (node_after r.act n) h.1) (after_same r.act n h.0)

pub front_rest : (k : ℕ) (rs : List Row) → AllByRecursion LeavesRest rs → AllByRecursion LeavesRest (take k rs)
front_rest zero rs h = tt
front_rest (suc k) [] h = tt
front_rest (suc k) (r ∷ rs) h = (h.0, front_rest k rs h.1)

-- a failure raised its count
pub rose_of : (e : Down) (old new : DiskState) → Caused (Some e) old new → IsCounted old → Rose (count_of (cause_of e) (counts_of old)) (count_of (cause_of e) (counts_of new))
rose_of down.Failed old new c k = c k
rose_of down.Stopped old new c k = c k

both_none : (x y : Option Line) → first_of x y ≡ None → (x ≡ None) × (y ≡ None)
both_none None y h = (refl, h)
both_none (Some l) y h = let f : ⊥ = cc in absurd f

either_some : (x y : Option Line) (l : Line) → first_of x y ≡ Some l → (x ≡ Some l) ⊎ ((x ≡ None) × (y ≡ Some l))
either_some None y l h = inr (refl, h)
either_some (Some k) y l h = inl h

module _ (log : CallLog) (s : Shared) (n : Node) (name : List ℕ) (clock : ℕ) (old : Up) (h : RepresentsNode log (kept_up name clock old) n) (named : name_of old ≡ name) (told : is_some (disk_of old).seen ≡ true) where
  -- a node that is up refuses nothing for being down
  pub before_here : (e : Service) → refused_before_reading s n e ≡ e.refused_before_reading s n
  before_here e = ap (λ (b : Bool). first_of (refused_if (not (b || e.while_down)) line.NodeDown) (e.refused_before_reading s n)) h.place.stands.up

  module _ (t : Task) (goes_on : Bool) (p : IsPlain (task_service t) goes_on) (new : Up) (goes : DiskAdvances (disk_of old) (disk_of new)) (node_is : name_of new ≡ name_of old) (after : SharedState) where
    pub stands_then : (m : Node) → UpRepresents clock new m → Same m n → RepresentsNode log (kept_up name clock new) m
    stands_then m up same = record {
      name = up.stands.kept.name ∙ node_is ∙ named;
      blocks = up.stands.kept.blocks;
      clock = up.stands.clock_is;
      unmade = same.unmade ∙ h.unmade;
      place = up;
      calls = goes.calls ∙ h.calls ∙ ap (λ cs. noted_all cs log) (sym same.calls);
      counts = goes.counted h.counts;
    }

    pub fallen_then : (m : Node) (act : Option Act) → HasDisk (fallen act m) (disk_of new) → Same m n → RepresentsNode log (kept_fallen name clock (disk_of new)) (fallen act m)
    fallen_then m act has same = record {
      name = same.name ∙ h.name;
      blocks = same.blocks ∙ h.blocks ∙ sym goes.size;
      clock = same.clock ∙ h.clock;
      unmade = same.unmade ∙ h.unmade;
      place = record { down = refl; reserved = λ was. refl; told = goes.told ∙ told; disk = has };
      calls = goes.calls ∙ h.calls ∙ ap (λ cs. noted_all cs log) (sym same.calls);
      counts = goes.counted h.counts;
    }

    faults : (counts_of (disk_of old)).faults ≤ (counts_of (disk_of new)).faults
    faults = goes.faults h.counts

    stops : (counts_of (disk_of old)).stops ≤ (counts_of (disk_of new)).stops
    stops = goes.stops h.counts

    -- it was refused
    pub refused_performs : (a b : Shown) → WasRefused (service_at (task_service t) s n) a b (UpRepresents clock new n × IsShared after s) → Performs log s n (counts_of (disk_of old)) t true true a b (kept_up name clock new) after
    refused_performs a b w = record {
      lines = [];
      answer = w.refusal;
      node = n;
      shared = s;
      step = go (either_some ((task_service t).refused_before_reading s n) ((task_service t).refused_after_reading s n) w.refusal w.is);
      emits = w.shows;
      alike = w.same.1;
      stands = stands_then n w.same.0 (same_itself n);
    }
      where
        go : ((task_service t).refused_before_reading s n ≡ Some w.refusal) ⊎ (((task_service t).refused_before_reading s n ≡ None) × ((task_service t).refused_after_reading s n ≡ Some w.refusal))
            → NodeStep s n (counts_of (disk_of old)) t [] w.refusal true n s (counts_of (disk_of new))
        go (inl early) = step_early s n t (counts_of (disk_of old)) (counts_of (disk_of new)) faults stops goes_on p w.refusal (before_here (task_service t) ∙ early)
        go (inr late) = step_late s n t (counts_of (disk_of old)) (counts_of (disk_of new)) faults stops goes_on p (before_here (task_service t) ∙ late.0) w.refusal late.1

    -- memory was lacking
    pub lacking_performs : (a b : Shown) → (task_service t).refused_before_reading s n ≡ None → (task_service t).takes_memory n ≡ true → UpRepresents clock new n → IsShared after s → Emits a (line.NoMemory ∷ []) b → Performs log s n (counts_of (disk_of old)) t true true a b (kept_up name clock new) after
    lacking_performs a b early takes up alike shows = record {
      lines = [];
      answer = line.NoMemory;
      node = n;
      shared = s;
      step = step_lacking s n t (counts_of (disk_of old)) (counts_of (disk_of new)) faults stops goes_on p (before_here (task_service t) ∙ early) takes;
      emits = shows;
      alike = alike;
      stands = stands_then n up (same_itself n);
    }

    module _ (rest : AllByRecursion LeavesRest ((task_service t).rows s n)) where
      -- it was done whole, and answered so
      pub served_performs : (a b : Shown) → WasServed (service_at (task_service t) s n) s n a b (IsShared after) (UpRepresents clock new) → Performs log s n (counts_of (disk_of old)) t true false a b (kept_up name clock new) after
      served_performs a b w =
          let none = both_none ((task_service t).refused_before_reading s n) ((task_service t).refused_after_reading s n) w.allowed in
          record {
            lines = lines_of_rows ((task_service t).rows s n);
            answer = (task_service t).answer s n;
            node = node_after_rows ((task_service t).rows s n) n;
            shared = shared_after_rows ((task_service t).rows s n) s;
            step = step_done s n t (counts_of (disk_of old)) (counts_of (disk_of new)) faults stops goes_on p (before_here (task_service t) ∙ none.0) none.1;
            emits = w.shows;
            alike = w.shared;
            stands = stands_then (node_after_rows ((task_service t).rows s n) n) w.node (rows_same ((task_service t).rows s n) n rest);
          }

      risk_rest : AllByRecursion LeavesRest (rows_at_risk (service_at (task_service t) s n))
      risk_rest = go ((task_service t).refused_after_reading s n)
        where
          go : (o : Option Line) → AllByRecursion LeavesRest (rows_if o ((task_service t).rows s n))
          go (Some refusal) = tt
          go None = rest

      -- the disk went down in it, and that was shown behind what was done; and answered, or not
      pub cut_performs : (e : Down) (a mid b : Shown) → Caused (Some e) (disk_of old) (disk_of new) → touches (task_service t) ≡ true → WasCut (service_at (task_service t) s n) s n a mid (IsShared after) (disk_of new)
          → (answers : Bool) → Emits mid (line.Down name (cause_of e) ∷ (if answers then (if goes_on then line.Normal else line.Broken (cause_of e)) ∷ [] else [])) b
          → Performs log s n (counts_of (disk_of old)) t answers (not goes_on) a b (kept_fallen name clock (disk_of new)) after
      cut_performs e a mid b caused touch w answers shows =
          let rs = rows_at_risk (service_at (task_service t) s n) in
          let answer = if goes_on then line.Normal else line.Broken (cause_of e) in
          let front = lines_of_rows (take w.done rs) in
          let m = node_after_rows (take w.done rs) n in
          record {
            lines = front ++ line.Down name (cause_of e) ∷ [];
            answer = answer;
            node = fallen (act_begun w.begun (drop w.done rs)) m;
            shared = shared_after_rows (take w.done rs) s;
            step = subst (λ x. NodeStep s n (counts_of (disk_of old)) t (front ++ line.Down x (cause_of e) ∷ []) answer (not goes_on) (fallen (act_begun w.begun (drop w.done rs)) m) (shared_after_rows (take w.done rs) s) (counts_of (disk_of new))) h.name
                (step_cut s n t (counts_of (disk_of old)) (counts_of (disk_of new)) faults stops goes_on p (before_here (task_service t) ∙ w.unrefused) rs w.done w.begun (cause_of e) refl touch w.within (rose_of e (disk_of old) (disk_of new) caused h.counts));
            emits = emitted answers front answer (emits_on a mid b front _ w.shows shows);
            alike = w.shared;
            stands = fallen_then m (act_begun w.begun (drop w.done rs)) w.disk (rows_same (take w.done rs) n (front_rest w.done rs risk_rest));
          }
        where
          emitted : (x : Bool) (front : List Line) (answer : Line) → Emits a (front ++ line.Down name (cause_of e) ∷ (if x then answer ∷ [] else [])) b → Emits a (if x then (front ++ line.Down name (cause_of e) ∷ []) ++ answer ∷ [] else front ++ line.Down name (cause_of e) ∷ []) b
          emitted true front answer m = subst (λ ls. Emits a ls b) (sym (append_assoc front (line.Down name (cause_of e) ∷ []) (answer ∷ []))) m
          emitted false front answer m = m
