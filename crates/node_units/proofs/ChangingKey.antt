-- A change of one key by a unit is a change of the world by its branch.
use Rattle.std.proofs.Common.{◌≡◌, ℕ, List, true, Some, sym, ◌∙◌, ap, subst}
use Rattle.file_base.specs.declared.head.FileHead.{FileHead}
use Rattle.record_operations.specs.Asking.{file_in, is_of_key, written}
use Rattle.record_operations.specs.declared.errors.RecErr.{RecErr}
use Rattle.record_operations.specs.declared.ops.RecordOp.{RecordOp}
use Rattle.unit_table.specs.Places.{AreInOrder}
use Rattle.unit_table.specs.Units.{OpenUnit, unit_at}
use Rattle.volume.specs.State.{SameVolume, VolumeState}
use Rattle.recovery_units.specs.run_model.Operations.{operation_answer}
use Rattle.recovery_units.specs.run_model.World.{find_file}
use Rattle.unit_world.specs.directory_model.Files.{head_at}
use Rattle.recovery_units.specs.Calls as calls
use Rattle.recovery_units.specs.Calls.{IsDone, IsNotDone, IsNumbered, KeepsUp, change_said, position_line, unit_act, unit_refused_after_reading, unit_refused_before_reading}
use Rattle.rms_units.specs.Calls as rms
use Rattle.rms_units.specs.State as state
use Rattle.rms_units.specs.State.{IsEarly, IsInOrder}
use Rattle.log_laws.specs.Slots.{Slots}
use Rattle.node_units.specs.Seen.{seen}
use Rattle.node_units.proofs.KeyKept.{key_broken, key_done}
use Rattle.node_units.proofs.KeyMade.{told_after}
use Rattle.node_units.proofs.KeyRefusals.{key_refused}
use Rattle.node_units.proofs.ReadErrors.{not_done}

module _ (place : ℕ) (u : OpenUnit) (o : RecordOp) (bytes : List ℕ) (s : state.UnitsState) (v : VolumeState) (t : state.UnitsState) (w : VolumeState) (order : IsInOrder s v) (at : AreInOrder s.units.places s.units.order) (at_place : unit_at s.units.places place ≡ Some u)
    (low : IsEarly v) (one : is_of_key o ≡ true) (number : IsNumbered o) (log : Slots) where
  pub change_key_ok : (told : ℕ) → w.store.disk.size ≡ v.store.disk.size → ((h : FileHead) → head_at v.catalog.heads (file_in o) ≡ Some h → rms.ChangesOk place u h o bytes told s v t w) → calls.ChangesOk u.serial o bytes told (seen s log) v (seen t log) w
  change_key_ok told size r n name file b asked keeps =
      let h = asked.head in
      let there = asked.named.there in
      let is = r h there in
      let done = is.changes one in
      let found = ap (λ x. find_file x n.durable.directory) asked.named.called ∙ asked.found in
      let kept_up = subst (λ (x : List ℕ). KeepsUp (unit_refused_before_reading n b x file (change_said o bytes)) (unit_refused_after_reading n b x file (change_said o bytes)) (unit_act b x file (change_said o bytes)) n) (sym asked.named.called) keeps in
      let now = told_after s v order at place u at_place n file b h log asked.up asked.unprepared asked.kept o bytes there found asked.branch one number low is.early done.early w done.made kept_up in
      subst (λ (x : List ℕ). IsDone (unit_refused_before_reading n b x file (change_said o bytes)) (unit_refused_after_reading n b x file (change_said o bytes)) (unit_act b x file (change_said o bytes)) (operation_answer file (change_said o bytes)) (position_line told) n (seen t log) w) asked.named.called
      (key_done s v order at place u at_place n file b h log asked.up asked.unprepared asked.kept o bytes there found asked.branch one number low is.early t w done
      now.0 now.1 size kept_up told is.position)

  pub change_key_err : (e : RecErr) → ((h : FileHead) → head_at v.catalog.heads (file_in o) ≡ Some h → rms.ChangesErr u h o bytes e s v t w) → calls.ChangesErr u.serial o bytes e (seen s log) v w
  change_key_err e r n name file b asked keeps =
      let h = asked.head in
      let there = asked.named.there in
      let found = ap (λ x. find_file x n.durable.directory) asked.named.called ∙ asked.found in
      let kept_up = subst (λ (x : List ℕ). KeepsUp (unit_refused_before_reading n b x file (change_said o bytes)) (unit_refused_after_reading n b x file (change_said o bytes)) (unit_act b x file (change_said o bytes)) n) (sym asked.named.called) keeps in
      subst (λ (x : List ℕ). IsNotDone e (unit_refused_before_reading n b x file (change_said o bytes)) (unit_refused_after_reading n b x file (change_said o bytes)) (unit_act b x file (change_said o bytes)) n w.store.disk) asked.named.called
      (not_done e (unit_refused_before_reading n b h.name file (change_said o bytes)) (unit_refused_after_reading n b h.name file (change_said o bytes)) (unit_act b h.name file (change_said o bytes)) n w.store.disk
      (λ c. rms.ChangeRefused u h o (written o bytes) c s v × SameVolume v w) (λ down. rms.ChangeBroke u h o (written o bytes) s v w) (r h there).1
      (λ c k. key_refused s v order at place u at_place n file b h log asked.up asked.unprepared asked.kept o bytes there found asked.branch one number c k.0)
      (λ down k. key_broken s v order at place u at_place n file b h log asked.up asked.unprepared asked.kept o bytes there found asked.branch one number low k.allowed w (k.key one) kept_up))
