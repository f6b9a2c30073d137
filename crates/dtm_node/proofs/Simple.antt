-- CRASH and CLOCK.
use Rattle.std.proofs.Common.{◌≡◌, inl, inr, ℕ, List, [], ◌∷◌, Bool, true, false, not, Some, None, refl, sym, ap, subst, ◌∙◌, arith, if◌then◌else◌}
use Rattle.std.specs.Prelude.{◌||◌}
use Rattle.block_disk.specs.Disk.{CallLog}
use Rattle.emitter_model.specs.Emitting.{Emits, Shown}
use Rattle.emitter_model.specs.transcript_model.Lines as line
use Rattle.emitter_model.specs.transcript_model.Lines.{Cause}
use Rattle.emitter_model.specs.commit_protocol.World.{In}
use Rattle.emitter_model.proofs.EmittingLemmas.{emits_nothing}
use Rattle.script_lang.specs.script_model.Statements.{Clock, Crash}
use Rattle.world_laws.specs.run_model.Operations.{first_of, refused_if}
use Rattle.world_laws.specs.run_model.World.{Clocks, Falls, Node, acted}
use Rattle.world_laws.specs.run_model.Answers.{Serves, service}
use Rattle.world_laws.specs.run_model.Steps.{NodeStep}
use Rattle.recovery_units.specs.Laws.{KeepsNodes}
use Rattle.run_shared.specs.Sharing.{SharedState}
use Rattle.node_requests.specs.node_table.Standing.{IsUp, Up}
use Rattle.node_requests.specs.node_standing.Keeping.{PerformsRequest, PerformsTask}
use Rattle.node_requests.specs.Running.{name_of}
use Rattle.node_requests.specs.node_standing.Standing.{IsDown, IsRunning, NodeState, Place, PlaceRepresents, RepresentsNode, counts_of, disk_in, disk_of, is_up}
use Rattle.node_requests.specs.node_standing.Telling.{TellsTask, said_shared}
use Rattle.said_steps.proofs.Falls.{falls_none}
use Rattle.dtm_node.proofs.Answered.{refused_answers}
use Rattle.dtm_node.proofs.Held.{holds_is}
use Rattle.dtm_node.proofs.Coming.{down_performs}
use Rattle.dtm_node.proofs.DiskLemmas.{disk_clocked}
use Rattle.dtm_node.proofs.Falling.{fallen_disk, told_up}
use Rattle.dtm_node.proofs.Performing.{kept_fallen, kept_up}
use Rattle.node_requests.proofs.SaysLemmas.{same_text}
use Rattle.dtm_node.proofs.Stepping.{IsPlain, step_done}

crash_plain : IsPlain (service Crash) false
crash_plain = record { powers = refl; occupies = refl; closing = refl; closing_lines = λ n. refl; goes = refl }

-- a node that is down does not crash
down_node : (k : NodeState) (p : Place) → k.place ≡ p → is_up p ≡ false → (log : CallLog) (n : Node) → RepresentsNode log k n → n.up ≡ false
down_node k (IsDown has_parts d) is down log n h = let s : PlaceRepresents k.clock (IsDown has_parts d) n = subst (λ x. PlaceRepresents k.clock x n) is h.place in s.down
down_node k (IsRunning r) is down log n h = let f : ⊥ = cc in absurd f

pub crash_down_tells : (k : NodeState) (s : SharedState) (a b : Shown) → is_up k.place ≡ false → Emits a (line.NodeDown ∷ []) b → TellsTask (Serves Crash) true true k s a b k s
crash_down_tells k s a b down shows =
    let said : refused_if (not (is_up k.place)) line.NodeDown ≡ Some line.NodeDown = ap (λ (x : Bool). refused_if (not x) line.NodeDown) down in
    record {
      lines = [];
      answer = line.NodeDown;
      emits = shows;
      own = tt;
      refused = λ refusal r. (let q : Some line.NodeDown ≡ Some refusal = sym said ∙ r in (refl, (let z : line.NodeDown ≡ refusal = cc in z), refl, refl));
      others = λ none. absurd (let q : Some line.NodeDown ≡ None = sym said ∙ none in (let f : ⊥ = cc in f));
      says = refl;
      calls = refl;
      failures = λ cause i counted. absurd i;
      passes = record { size = refl; faults = λ c. omega arith; stops = λ c. omega arith; counted = λ c. c; told = refl };
      quiet = λ x. refl;
      fused = λ writes choice q. (let f : ⊥ = cc in absurd f);
      boots = λ q. (let f : ⊥ = cc in absurd f);
      answered = refused_answers (Serves Crash) k.name (refused_if (not (is_up k.place)) line.NodeDown) line.NodeDown true said refl;
      held = λ d unused. (d, holds_is (disk_in k.place) (disk_in k.place) refl);
    }

pub crash_down_performs : (k : NodeState) (s : SharedState) (a b : Shown) → is_up k.place ≡ false → Emits a (line.NodeDown ∷ []) b → PerformsRequest Crash k s a b k s
crash_down_performs k s a b down shows = λ log n w h share kept promised. (
  true,
  down_performs (Serves Crash) false crash_plain k s a b
      (λ x m is. ap (λ (t : Bool). first_of (refused_if (not (t || false)) line.NodeDown) None) is) (down_node k k.place refl down) shows log n w h share kept promised,
)

module _ (name : List ℕ) (clock : ℕ) (r : Up) (s : SharedState) (a b : Shown) (shows : Emits a (line.Crashed name ∷ line.Normal ∷ []) b) where
  pub crash_tells : TellsTask (Serves Crash) true false (kept_up name clock r) s a b (kept_fallen name clock (disk_of r)) s
  crash_tells = record {
    lines = line.Crashed name ∷ [];
    answer = line.Normal;
    emits = shows;
    own = (refl, tt);
    refused = λ refusal q. (let f : ⊥ = cc in absurd f);
    others = λ none. refl;
    says = ap (λ (t : Bool). record { nodes = (if t then record { name = name; up = false; unmade = false } ∷ [] else record { name = name; up = true; unmade = false } ∷ []); shared = said_shared s }) (same_text name);
    calls = refl;
    failures = λ cause i counted. absurd (crashed_not cause i);
    passes = record { size = refl; faults = λ c. omega arith; stops = λ c. omega arith; counted = λ c. c; told = refl };
    quiet = λ x. refl;
    fused = λ writes choice q. (let f : ⊥ = cc in absurd f);
    boots = λ q. (let f : ⊥ = cc in absurd f);
    answered = record {
      may = λ none. refl;
      falls = λ on. falls_none (name ∷ []) (line.Crashed name ∷ []) line.Normal (λ node cause i. elim i [ inl e ↦ (let f : ⊥ = cc in f) | inr x ↦ x ]) refl;
      crashes = λ node i. refl;
      crash = λ is none. refl;
    };
    held = λ d unused. (let f : ⊥ = cc in absurd f);
  }
    where
      crashed_not : (cause : Cause) → In (line.Down name cause) (line.Crashed name ∷ []) → ⊥
      crashed_not cause (inl e) = cc
      crashed_not cause (inr e) = e

  pub crash_performs : KeepsNodes → IsUp r → name_of r ≡ name → PerformsRequest Crash (kept_up name clock r) s a b (kept_fallen name clock (disk_of r)) s
  crash_performs law up named = λ log n w h share kept promised. (
    false,
    record {
      lines = line.Crashed name ∷ [];
      answer = line.Normal;
      node = acted Falls n;
      shared = w;
      step = subst (λ x. NodeStep w n (counts_of (disk_of r)) (Serves Crash) (line.Crashed x ∷ []) line.Normal false (acted Falls n) w (counts_of (disk_of r))) h.name
          (step_done w n (Serves Crash) (counts_of (disk_of r)) (counts_of (disk_of r)) (omega arith) (omega arith) false crash_plain (ap (λ (t : Bool). first_of (refused_if (not (t || false)) line.NodeDown) None) h.place.stands.up) refl);
      emits = shows;
      alike = share;
      stands = record {
        name = h.name;
        blocks = h.blocks;
        clock = h.clock;
        unmade = h.unmade;
        place = record { down = refl; reserved = λ was. refl; told = told_up clock r n up h.place; disk = fallen_disk law clock r n (acted Falls n) up h.place refl refl refl refl };
        calls = h.calls;
        counts = h.counts;
      };
    },
  )

-- The clock is set, also of a node that is down.

clock_plain : (now : ℕ) → IsPlain (service (Clock now)) false
clock_plain now = record { powers = refl; occupies = refl; closing = refl; closing_lines = λ n. refl; goes = refl }

or_true : (b : Bool) → (b || true) ≡ true
or_true true = refl
or_true false = refl

clock_stands : KeepsNodes → (clock now : ℕ) (p : Place) (n : Node) → PlaceRepresents clock p n → PlaceRepresents now p (acted (Clocks now) n)
clock_stands law clock now (IsDown has_parts d) n s = record { down = s.down; reserved = s.reserved; told = s.told; disk = disk_clocked now n d s.disk }
clock_stands law clock now (IsRunning r) n s =
    let k = s.stands in
    record {
      stands = record {
        kept = law.stays r.stored.units r.stored.volume n (acted (Clocks now) n) k.kept refl refl refl refl refl refl;
        table = k.table;
        clock_is = refl;
        doubt = k.doubt;
        names = k.names;
        up = k.up;
        was_up = k.was_up;
        under_way = k.under_way;
      };
      drawn = s.drawn;
      declared = s.declared;
      preparation = s.preparation;
    }

pub clock_performs : KeepsNodes → (now : ℕ) (k : NodeState) (s : SharedState) (a : Shown) → PerformsTask (Serves (Clock now)) false false k s a a (record k { clock = now }) s
clock_performs law now k s a = λ log n w h share kept promised. record {
  lines = [];
  answer = line.Normal;
  node = acted (Clocks now) n;
  shared = w;
  step = step_done w n (Serves (Clock now)) (counts_of (disk_in k.place)) (counts_of (disk_in k.place)) (omega arith) (omega arith) false (clock_plain now) (ap (λ (t : Bool). first_of (refused_if (not t) line.NodeDown) None) (or_true n.up)) refl;
  emits = emits_nothing a;
  alike = share;
  stands = record { name = h.name; blocks = h.blocks; clock = refl; unmade = h.unmade; place = clock_stands law k.clock now k.place n h.place; calls = h.calls; counts = h.counts };
}
