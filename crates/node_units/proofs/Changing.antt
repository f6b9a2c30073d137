-- A change by a unit is one of the world by its branch: of one key, or a truncation.
use Rattle.std.proofs.Common.{◌≡◌, ℕ, List, [], Some, refl, sym, ◌∙◌, ap, subst}
use Rattle.file_base.specs.declared.head.FileHead.{FileHead}
use Rattle.record_operations.specs.Asking.{file_in}
use Rattle.record_operations.specs.declared.errors.RecErr.{RecErr}
use Rattle.record_operations.specs.declared.ops.RecordOp.{RecordOp}
use Rattle.record_operations.specs.declared.ops.RecordOp.TheVariants as op
use Rattle.unit_table.specs.Places.{AreInOrder}
use Rattle.unit_table.specs.Units.{OpenUnit, unit_at}
use Rattle.vms_model.specs.Keys.{Number}
use Rattle.volume.specs.declared.catalog.Catalog.{Catalog}
use Rattle.volume.specs.State.{SameVolume, VolumeState}
use Rattle.script_model.specs.Statements.{Truncate}
use Rattle.recovery_units.specs.run_model.Operations.{operation_answer}
use Rattle.recovery_units.specs.run_model.World.{find_file}
use Rattle.unit_world.specs.directory_model.Files.{head_at}
use Rattle.recovery_units.specs.Calls as calls
use Rattle.recovery_units.specs.Calls.{IsDone, IsNotDone, IsNumbered, KeepsUp, position_line, unit_act, unit_refused_after_reading, unit_refused_before_reading}
use Rattle.rms_units.specs.Calls as rms
use Rattle.rms_units.specs.State as state
use Rattle.rms_units.specs.State.{IsEarly, IsInOrder}
use Rattle.rms_units.specs.key_changes.declared.asked.KeyChange.TheVariants as how
use Rattle.log_laws.specs.Slots.{Slots}
use Rattle.node_units.specs.Seen.{seen}
use Rattle.node_units.proofs.AskedKey.{no_position}
use Rattle.node_units.proofs.ChangingKey.{change_key_err, change_key_ok}
use Rattle.node_units.proofs.CutKept.{cut_broken, cut_done}
use Rattle.node_units.proofs.CutRefusals.{cut_cause}
use Rattle.node_units.proofs.ReadErrors.{not_done}

module _ (place : ℕ) (u : OpenUnit) (bytes : List ℕ) (s : state.UnitsState) (v : VolumeState) (t : state.UnitsState) (w : VolumeState) (order : IsInOrder s v) (at : AreInOrder s.units.places s.units.order) (at_place : unit_at s.units.places place ≡ Some u) (low : IsEarly v) (log : Slots) where
  cut_ok : (f from told : ℕ) → w.store.disk.size ≡ v.store.disk.size → ((h : FileHead) → head_at v.catalog.heads f ≡ Some h → rms.ChangesOk place u h (op.Truncate f from) bytes told s v t w) → calls.ChangesOk u.serial (op.Truncate f from) bytes told (seen s log) v (seen t log) w
  cut_ok f from told size r n name file b asked keeps =
      let h = asked.head in
      let there = asked.named.there in
      let is = r h there in
      let found = ap (λ x. find_file x n.durable.directory) asked.named.called ∙ asked.found in
      let kept_up = subst (λ (x : List ℕ). KeepsUp (unit_refused_before_reading n b x file (Truncate from)) (unit_refused_after_reading n b x file (Truncate from)) (unit_act b x file (Truncate from)) n) (sym asked.named.called) keeps in
      subst (λ (x : List ℕ). IsDone (unit_refused_before_reading n b x file (Truncate from)) (unit_refused_after_reading n b x file (Truncate from)) (unit_act b x file (Truncate from)) (operation_answer file (Truncate from)) (position_line told) n (seen t log) w) asked.named.called
      (cut_done s v order at place u at_place n file b h log asked.up asked.unprepared asked.kept f from there found asked.branch is.early low t w (is.cuts f from refl) size kept_up told (is.position ∙ no_position h.organization how.Remove (Number from) (λ e. let never : ⊥ = cc in never)))

  cut_err : (f from : ℕ) (e : RecErr) → ((h : FileHead) → head_at v.catalog.heads f ≡ Some h → rms.ChangesErr u h (op.Truncate f from) bytes e s v t w) → calls.ChangesErr u.serial (op.Truncate f from) bytes e (seen s log) v w
  cut_err f from e r n name file b asked keeps =
      let h = asked.head in
      let there = asked.named.there in
      let found = ap (λ x. find_file x n.durable.directory) asked.named.called ∙ asked.found in
      let kept_up = subst (λ (x : List ℕ). KeepsUp (unit_refused_before_reading n b x file (Truncate from)) (unit_refused_after_reading n b x file (Truncate from)) (unit_act b x file (Truncate from)) n) (sym asked.named.called) keeps in
      subst (λ (x : List ℕ). IsNotDone e (unit_refused_before_reading n b x file (Truncate from)) (unit_refused_after_reading n b x file (Truncate from)) (unit_act b x file (Truncate from)) n w.store.disk) asked.named.called
      (not_done e (unit_refused_before_reading n b h.name file (Truncate from)) (unit_refused_after_reading n b h.name file (Truncate from)) (unit_act b h.name file (Truncate from)) n w.store.disk
      (λ c. rms.ChangeRefused u h (op.Truncate f from) [] c s v × SameVolume v w) (λ down. rms.ChangeBroke u h (op.Truncate f from) [] s v w) (r h there).1
      (λ c k. cut_cause s v order at place u at_place n file b h log asked.up asked.unprepared asked.kept f from there found asked.branch c k.0)
      (λ down k. cut_broken s v order at place u at_place n file b h log asked.up asked.unprepared asked.kept f from there found asked.branch k.allowed low w (k.cut f from refl) kept_up))

  pub change_ok : (o : RecordOp) → IsNumbered o → (told : ℕ) → w.store.disk.size ≡ v.store.disk.size → ((h : FileHead) → head_at v.catalog.heads (file_in o) ≡ Some h → rms.ChangesOk place u h o bytes told s v t w) → calls.ChangesOk u.serial o bytes told (seen s log) v (seen t log) w
  change_ok (op.Put f key) number told size r = change_key_ok place u (op.Put f key) bytes s v t w order at at_place low refl number log told size r
  change_ok (op.Update f key) number told size r = change_key_ok place u (op.Update f key) bytes s v t w order at at_place low refl number log told size r
  change_ok (op.Delete f key) number told size r = change_key_ok place u (op.Delete f key) bytes s v t w order at at_place low refl number log told size r
  change_ok (op.Truncate f from) number told size r = cut_ok f from told size r

  pub change_err : (o : RecordOp) → IsNumbered o → (e : RecErr) → ((h : FileHead) → head_at v.catalog.heads (file_in o) ≡ Some h → rms.ChangesErr u h o bytes e s v t w) → calls.ChangesErr u.serial o bytes e (seen s log) v w
  change_err (op.Put f key) number e r = change_key_err place u (op.Put f key) bytes s v t w order at at_place low refl number log e r
  change_err (op.Update f key) number e r = change_key_err place u (op.Update f key) bytes s v t w order at at_place low refl number log e r
  change_err (op.Delete f key) number e r = change_key_err place u (op.Delete f key) bytes s v t w order at at_place low refl number log e r
  change_err (op.Truncate f from) number e r = cut_err f from e r

-- the journal begins in the same block
pub start_kept : (place : ℕ) (u : OpenUnit) (h : FileHead) (o : RecordOp) (bytes : List ℕ) (told : ℕ) (s : state.UnitsState) (v : VolumeState) (t : state.UnitsState) (w : VolumeState) → rms.ChangesOk place u h o bytes told s v t w → w.catalog.ru.start ≡ v.catalog.ru.start
start_kept place u h (op.Put f key) bytes told s v t w ok = ap (λ (k : Catalog). k.ru.start) (ok.changes refl).made.enters.catalog
start_kept place u h (op.Update f key) bytes told s v t w ok = ap (λ (k : Catalog). k.ru.start) (ok.changes refl).made.enters.catalog
start_kept place u h (op.Delete f key) bytes told s v t w ok = ap (λ (k : Catalog). k.ru.start) (ok.changes refl).made.enters.catalog
start_kept place u h (op.Truncate f from) bytes told s v t w ok = ap (λ (k : Catalog). k.ru.start) (ok.cuts f from refl).made.enters.catalog
