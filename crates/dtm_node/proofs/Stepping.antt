-- The ways of a task at a node whose disk is not made to run again.
use Rattle.std.proofs.Common.{◌≡◌, ℕ, ◌≤◌, List, [], ◌∷◌, ◌++◌, Bool, true, false, Some, None, not, length, take, drop, if◌then◌else◌, refl, ◌∙◌, ap, sym, append-nil}
use Rattle.std.specs.Prelude.{◌||◌}
use Rattle.emitter_model.specs.transcript_model.Outside.{Rose}
use Rattle.emitter_model.specs.transcript_model.Lines as line
use Rattle.emitter_model.specs.transcript_model.Lines.{Line, Cause}
use Rattle.world_laws.specs.run_model.World.{DiskCounts, Lost, Node, Shared, fallen}
use Rattle.world_laws.specs.run_model.Answers.{Row, Service, Task, occupies, powers, refused_before_reading, task_service, touches}
use Rattle.world_laws.specs.run_model.Steps.{Cut, NodeStep, Whole, WithoutMemory, act_begun, count_of, lines_of_rows, node_after_rows, occupied, rows_if, shared_after_rows}

-- Such a task does all in its rows, and its statement goes on where the disk goes down, or ends.
pub record IsPlain (e : Service) (goes_on : Bool) : Type 0 where
  pub powers : powers e ≡ false
  pub occupies : occupies e ≡ false
  pub closing : e.closing ≡ None
  pub closing_lines : (n : Node) → e.closing_lines n ≡ []
  pub goes : e.goes_on ≡ goes_on

or_false : (b : Bool) → (b || false) ≡ b
or_false true = refl
or_false false = refl

occupied_not : (e : Service) (s : Shared) → occupies e ≡ false → occupied e s ≡ s
occupied_not e s none = λ i. record s { in_use = (ap (λ (b : Bool). s.in_use || b) none ∙ or_false s.in_use) i }

module _ (s : Shared) (n : Node) (t : Task) (old new : DiskCounts) (faults : old.faults ≤ new.faults) (stops : old.stops ≤ new.stops) (goes_on : Bool) (p : IsPlain (task_service t) goes_on) where
  e : Service
  e = task_service t

  -- refused by what is known before the disk is read
  pub step_early : (refusal : Line) → refused_before_reading s n (task_service t) ≡ Some refusal → NodeStep s n old t [] refusal true n s new
  step_early refusal early = record { choice = Whole Lost; allowed = tt; faults = faults; stops = stops; shows = rw early refl; answers = rw early refl; over = rw early refl; node = rw early refl; shared = rw early refl }

  module _ (early : refused_before_reading s n (task_service t) ≡ None) where
    -- refused by what the disk has, or by a quota
    pub step_late : (refusal : Line) → (task_service t).refused_after_reading s n ≡ Some refusal → NodeStep s n old t [] refusal true n s new
    step_late refusal late = record { choice = Whole Lost; allowed = tt; faults = faults; stops = stops; shows = rw (early, p.powers, late) refl; answers = rw (early, p.powers, late) refl; over = rw (early, p.powers, late) refl; node = rw (early, p.powers, late) refl; shared = rw (early, p.powers, late) refl }

    -- memory is lacking
    pub step_lacking : (task_service t).takes_memory n ≡ true → NodeStep s n old t [] line.NoMemory true n s new
    step_lacking takes = record { choice = WithoutMemory; allowed = (early, takes); faults = faults; stops = stops; shows = refl; answers = refl; over = refl; node = refl; shared = refl }

    -- done whole
    pub step_done : (task_service t).refused_after_reading s n ≡ None → NodeStep s n old t (lines_of_rows ((task_service t).rows s n)) ((task_service t).answer s n) false (node_after_rows ((task_service t).rows s n) n) (shared_after_rows ((task_service t).rows s n) s) new
    step_done late = record {
      choice = Whole Lost;
      allowed = tt;
      faults = faults;
      stops = stops;
      shows = rw (early, p.powers, late, p.closing_lines n) (sym (append-nil (lines_of_rows ((task_service t).rows s n))));
      answers = rw (early, p.powers, late) refl;
      over = rw (early, p.powers, late) refl;
      node = rw (early, p.powers, late, p.closing) refl;
      shared = rw (early, p.powers, late, p.closing) (sym (occupied_not (task_service t) (shared_after_rows ((task_service t).rows s n) s) p.occupies));
    }

    -- a failure after so many rows, and perhaps with the act of the next under way
    pub step_cut : (rs : List Row) (done : ℕ) (begun : Bool) (cause : Cause) → rows_if ((task_service t).refused_after_reading s n) ((task_service t).rows s n) ≡ rs → touches (task_service t) ≡ true → done ≤ length rs → Rose (count_of cause old) (count_of cause new) →
        NodeStep s n old t (lines_of_rows (take done rs) ++ line.Down n.name cause ∷ []) (if goes_on then line.Normal else line.Broken cause) (not goes_on) (fallen (act_begun begun (drop done rs)) (node_after_rows (take done rs) n)) (shared_after_rows (take done rs) s) new
    step_cut rs done begun cause are touch within rose = record {
      choice = Cut Lost done begun cause;
      allowed = (early, touch, tt, rw (p.powers, are) within, rose);
      faults = faults;
      stops = stops;
      shows = rw (p.powers, are) refl;
      answers = rw p.goes refl;
      over = rw p.goes refl;
      node = rw (p.powers, are) refl;
      shared = rw (p.powers, are) (sym (occupied_not (task_service t) (shared_after_rows (take done rs) s) p.occupies));
    }
