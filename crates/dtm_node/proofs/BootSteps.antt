-- The ways of a boot, as a statement or in a settling, at a node whose disk is made to run again.
use Rattle.std.proofs.Common.{◌≡◌, ℕ, ◌≤◌, List, [], ◌∷◌, ◌++◌, Bool, true, false, Some, None, length, take, drop, refl, ◌∙◌, ap, sym}
use Rattle.std.specs.Prelude.{◌||◌, not}
use Rattle.emitter_model.specs.transcript_model.Outside.{Rose}
use Rattle.emitter_model.specs.transcript_model.Lines as line
use Rattle.emitter_model.specs.transcript_model.Lines.{Line, Cause, Failed}
use Rattle.script_lang.specs.script_model.Statements.{Boot}
use Rattle.world_laws.specs.run_model.World.{ComesUp, DiskCounts, Lost, MayTurnOut, Node, Outturn, Shared, acted, fallen, powered, unpowered}
use Rattle.world_laws.specs.run_model.Answers.{Restarts, Row, Serves, Service, Task, boot_rows, bootable, occupies, powers, refused_before_reading, spoils, task_service, touches}
use Rattle.world_laws.specs.run_model.Steps.{Cut, NodeStep, Unpowered, Whole, WithoutMemory, act_begun, count_of, lines_of_rows, node_after_rows, occupied, ready_node, rows_if, shared_after_rows}

-- A task that boots a node.
pub record IsBoot (t : Task) : Type 0 where
  pub powers : powers (task_service t) ≡ true
  pub spoils : spoils (task_service t) ≡ false
  pub occupies : occupies (task_service t) ≡ true
  pub touches : touches (task_service t) ≡ true
  pub late : (s : Shared) (n : Node) → (task_service t).refused_after_reading s n ≡ bootable n
  pub rows : (s : Shared) (n : Node) → (task_service t).rows s n ≡ boot_rows s n
  pub closing : (task_service t).closing ≡ Some ComesUp
  pub goes : (task_service t).goes_on ≡ false
  pub memory : (n : Node) → (task_service t).takes_memory n ≡ not n.was_up

pub boot_is : IsBoot (Serves Boot)
boot_is = record { powers = refl; spoils = refl; occupies = refl; touches = refl; late = λ s n. refl; rows = λ s n. refl; closing = refl; goes = refl; memory = λ n. refl }

pub restart_is : IsBoot Restarts
restart_is = record { powers = refl; spoils = refl; occupies = refl; touches = refl; late = λ s n. refl; rows = λ s n. refl; closing = refl; goes = refl; memory = λ n. refl }

-- no volume may be made any more
abbrev pub in_use : Shared → Shared
in_use s = record s { in_use = true }

or_true : (b : Bool) → (b || true) ≡ true
or_true true = refl
or_true false = refl

occupied_so : (e : Service) (s : Shared) → occupies e ≡ true → occupied e s ≡ in_use s
occupied_so e s o = λ i. record s { in_use = (ap (λ (b : Bool). s.in_use || b) o ∙ or_true s.in_use) i }

module _ (s : Shared) (n : Node) (t : Task) (old new : DiskCounts) (faults : old.faults ≤ new.faults) (stops : old.stops ≤ new.stops) (p : IsBoot t) where
  pub step_first : (refusal : Line) → refused_before_reading s n (task_service t) ≡ Some refusal → NodeStep s n old t [] refusal true n s new
  step_first refusal early = record { choice = Whole Lost; allowed = tt; faults = faults; stops = stops; shows = rw early refl; answers = rw early refl; over = rw early refl; node = rw early refl; shared = rw early refl }

  module _ (early : refused_before_reading s n (task_service t) ≡ None) where
    pub step_lacking : n.was_up ≡ false → NodeStep s n old t [] line.NoMemory true n s new
    step_lacking never = record { choice = WithoutMemory; allowed = (early, p.memory n ∙ ap not never); faults = faults; stops = stops; shows = refl; answers = refl; over = refl; node = refl; shared = refl }

    pub step_unpowered : Rose (count_of Failed old) (count_of Failed new) → NodeStep s n old t (line.Down n.name Failed ∷ []) (line.Broken Failed) true (unpowered old.stops n) (in_use s) new
    step_unpowered rose = record {
      choice = Unpowered;
      allowed = (early, p.powers, rose);
      faults = faults;
      stops = stops;
      shows = refl;
      answers = refl;
      over = refl;
      node = rw p.spoils refl;
      shared = sym (occupied_so (task_service t) s p.occupies);
    }

    module _ (outturn : Outturn) (may : MayTurnOut n outturn) where
      abbrev ready : Node
      ready = powered outturn old.stops n

      ready_is : ready_node outturn old.stops (task_service t) n ≡ ready
      ready_is = rw (p.powers, p.spoils) refl

      pub step_barred : (refusal : Line) → bootable ready ≡ Some refusal → NodeStep s n old t [] refusal true ready s new
      step_barred refusal barred =
          let late : (task_service t).refused_after_reading s ready ≡ Some refusal = p.late s ready ∙ barred in
          record { choice = Whole outturn; allowed = may; faults = faults; stops = stops; shows = rw (early, ready_is, late) refl; answers = rw (early, ready_is, late) refl; over = rw (early, ready_is, late) refl; node = rw (early, ready_is, late) refl; shared = rw (early, ready_is, late) refl }

      pub step_risen : bootable ready ≡ None → NodeStep s n old t (lines_of_rows (boot_rows s ready) ++ (task_service t).closing_lines ready) ((task_service t).answer s ready) false (acted ComesUp (node_after_rows (boot_rows s ready) ready)) (in_use (shared_after_rows (boot_rows s ready) s)) new
      step_risen free =
          let late : (task_service t).refused_after_reading s ready ≡ None = p.late s ready ∙ free in
          record {
            choice = Whole outturn;
            allowed = may;
            faults = faults;
            stops = stops;
            shows = rw (early, ready_is, late, p.rows s ready) refl;
            answers = rw (early, ready_is, late) refl;
            over = rw (early, ready_is, late) refl;
            node = rw (early, ready_is, late, p.closing, p.rows s ready) refl;
            shared = rw (early, ready_is, late, p.closing, p.rows s ready) (sym (occupied_so (task_service t) (shared_after_rows (boot_rows s ready) s) p.occupies));
          }

      pub step_fell : (rs : List Row) (done : ℕ) (begun : Bool) (cause : Cause) → rows_if (bootable ready) (boot_rows s ready) ≡ rs → done ≤ length rs → Rose (count_of cause old) (count_of cause new) →
          NodeStep s n old t (lines_of_rows (take done rs) ++ line.Down ready.name cause ∷ []) (line.Broken cause) true (fallen (act_begun begun (drop done rs)) (node_after_rows (take done rs) ready)) (in_use (shared_after_rows (take done rs) s)) new
      step_fell rs done begun cause are within rose =
          let risk : rows_if ((task_service t).refused_after_reading s ready) ((task_service t).rows s ready) ≡ rs = (λ i. rows_if (p.late s ready i) (p.rows s ready i)) ∙ are in
          record {
            choice = Cut outturn done begun cause;
            allowed = (early, p.touches, may, rw (ready_is, risk) within, rose);
            faults = faults;
            stops = stops;
            shows = rw (ready_is, risk) refl;
            answers = rw p.goes refl;
            over = rw p.goes refl;
            node = rw (ready_is, risk) refl;
            shared = rw (ready_is, risk) (sym (occupied_so (task_service t) (shared_after_rows (take done rs) s) p.occupies));
          }
