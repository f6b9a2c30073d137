-- A change without a unit is one of the world: what a call answers of it is what the layer above promises.
use Rattle.std.proofs.Common.{◌≡◌, ℕ, ◌+◌, ◌<◌, ◌≤◌, List, Bool, true, false, Some, nat_le, refl, sym, ◌∙◌, ap, subst, arith, inl, inr, if◌then◌else◌}
use Rattle.file_base.specs.declared.head.FileHead.{FileHead}
use Rattle.vms_model.specs.Ids.{IsId}
use Rattle.vms_base.specs.Ids.{tid_of}
use Rattle.vms_base.specs.declared.ids.Tid.{Tid}
use Rattle.volume.specs.State.{SameVolume, VolumeState}
use Rattle.record_operations.specs.Asking.{file_in, written}
use Rattle.record_operations.specs.Causes.{Cause}
use Rattle.record_operations.specs.declared.errors.RecErr.{RecErr}
use Rattle.record_operations.specs.declared.ops.RecordOp.{RecordOp}
use Rattle.record_operations.specs.declared.ops.RecordOp.TheVariants as op
use Rattle.recovery_units.specs.run_model.Operations.{first_of, operation_answer}
use Rattle.recovery_units.specs.run_model.World.{File, Node, find_file, next_id}
use Rattle.unit_world.specs.directory_model.Files.{NoneNamed, head_at}
use Rattle.recovery_units.specs.Calls as calls
use Rattle.recovery_units.specs.Calls.{IsAskedAlone, IsBroken, IsDone, IsNotDone, IsNumbered, KeepsUp, alone_refused_after_reading, alone_refused_before_reading, cause_line, change_said, direct_act, position_line}
use Rattle.log_laws.specs.Slots.{Slots}
use Rattle.unit_table.specs.Places.{AreInOrder}
use Rattle.rms_units.specs.unit_journal.Settling as settling
use Rattle.rms_units.specs.Calls as rms
use Rattle.rms_units.specs.State as state
use Rattle.rms_units.specs.State.{IsEarly, IsInOrder}
use Rattle.node_units.specs.Seen.{seen}
use Rattle.node_units.proofs.ReadErrors.{not_done}
use Rattle.node_units.proofs.Looking.{first_some}
use Rattle.node_units.proofs.DirectMade.{moment_of}
use Rattle.node_units.proofs.DirectCut.{cut_done}
use Rattle.node_units.proofs.DirectDone.{IsAskedOf, early_refused, key_done}
use Rattle.node_units.proofs.DirectNotDone.{cut_broken, cut_refused, key_broken, key_refused}

-- the next moment is one that a home tells
moment_few : (clock greatest : ℕ) → clock < 24000001000066 → greatest < 24000001000066 → (if nat_le clock (greatest + 1) then greatest + 1 else clock) ≤ 24113056319999
moment_few clock greatest small low = go (nat_le clock (greatest + 1))
  where
    go : (b : Bool) → (if b then greatest + 1 else clock) ≤ 24113056319999
    go true = omega (arith, low)
    go false = omega (arith, small)

-- What is known of a call: of the units and their places, of the numbers that only grow, and of the id that is drawn.
pub record MayDirect (tid : Tid) (clock : ℕ) (o : RecordOp) (s : state.UnitsState) (v : VolumeState) : Type 0 where
  pub order : IsInOrder s v
  pub places : AreInOrder s.units.places s.units.order
  pub early : IsEarly v
  pub clock_early : clock < 24000001000066
  pub number : IsNumbered o
  pub is_id : IsId (tid_of tid)

module _ (tid : Tid) (clock : ℕ) (o : RecordOp) (s : state.UnitsState) (log : Slots) (v : VolumeState) (may : MayDirect tid clock o s v) where
  moment_low : settling.next_moment clock v.catalog.home ≤ 24113056319999
  moment_low = moment_few clock v.catalog.home.greatest_moment.0 may.clock_early may.early.moment

  asked_of : (n : Node) (name : List ℕ) (file : File) (asked : IsAskedAlone (file_in o) (seen s log) v n name file) → IsAskedOf o s log v n asked.head file
  asked_of n name file asked = record {
    kept = asked.kept;
    up = asked.up;
    order = may.order;
    places = may.places;
    named = record { there = asked.named.there; called = refl; lowest = subst (NoneNamed v.catalog.heads (file_in o)) (sym asked.named.called) asked.named.lowest };
    found = ap (λ x. find_file x n.durable.directory) asked.named.called ∙ asked.found;
    number = may.number;
    low = may.early.images;
  }

-- a file is called so
renamed : (o : RecordOp) (bytes : List ℕ) (n : Node) (name : List ℕ) (file : File) (h : FileHead) → h.name ≡ name → KeepsUp (alone_refused_before_reading n name file (change_said o bytes)) (alone_refused_after_reading n name file (change_said o bytes)) (direct_act n name file (change_said o bytes)) n →
    KeepsUp (alone_refused_before_reading n h.name file (change_said o bytes)) (alone_refused_after_reading n h.name file (change_said o bytes)) (direct_act n h.name file (change_said o bytes)) n
renamed o bytes n name file h called keeps = subst (λ (x : List ℕ). KeepsUp (alone_refused_before_reading n x file (change_said o bytes)) (alone_refused_after_reading n x file (change_said o bytes)) (direct_act n x file (change_said o bytes)) n) (sym called) keeps

-- It was done.

done_by : (tid : Tid) (clock : ℕ) (o : RecordOp) (bytes : List ℕ) (position : ℕ) (s : state.UnitsState) (log : Slots) (v w : VolumeState) (n : Node) (h : FileHead) (file : File) → IsAskedOf o s log v n h file → rms.DirectsOk tid clock h o bytes position s v w → tid_of tid ≡ next_id n →
    IsId (tid_of tid) → n.clock ≡ clock → settling.next_moment clock v.catalog.home ≤ 24113056319999 →
    KeepsUp (alone_refused_before_reading n h.name file (change_said o bytes)) (alone_refused_after_reading n h.name file (change_said o bytes)) (direct_act n h.name file (change_said o bytes)) n → w.store.disk.size ≡ v.store.disk.size →
    IsDone (alone_refused_before_reading n h.name file (change_said o bytes)) (alone_refused_after_reading n h.name file (change_said o bytes)) (direct_act n h.name file (change_said o bytes)) (operation_answer file (change_said o bytes)) (position_line position) n (seen s log) w
done_by tid clock (op.Put g key) bytes position s log v w n h file asked r own is_id ticks moment keeps size = key_done (op.Put g key) bytes s log v w n h file asked refl tid clock r.early position (r.changes refl) own is_id ticks moment keeps size r.position
done_by tid clock (op.Update g key) bytes position s log v w n h file asked r own is_id ticks moment keeps size = key_done (op.Update g key) bytes s log v w n h file asked refl tid clock r.early position (r.changes refl) own is_id ticks moment keeps size r.position
done_by tid clock (op.Delete g key) bytes position s log v w n h file asked r own is_id ticks moment keeps size = key_done (op.Delete g key) bytes s log v w n h file asked refl tid clock r.early position (r.changes refl) own is_id ticks moment keeps size r.position
done_by tid clock (op.Truncate g from) bytes position s log v w n h file asked r own is_id ticks moment keeps size = cut_done g from bytes s log v w n h file asked tid clock r.early position (r.cuts g from refl) own is_id ticks moment keeps size r.position

pub directs_ok : (tid : Tid) (clock : ℕ) (o : RecordOp) (bytes : List ℕ) (position moment : ℕ) (s : state.UnitsState) (log : Slots) (v w : VolumeState) → MayDirect tid clock o s v → w.store.disk.size ≡ v.store.disk.size → moment ≡ settling.next_moment clock v.catalog.home →
    ((h : FileHead) → head_at v.catalog.heads (file_in o) ≡ Some h → rms.DirectsOk tid clock h o bytes position s v w) → calls.DirectsOk (tid_of tid) clock o bytes position moment (seen s log) v w
directs_ok tid clock o bytes position moment s log v w may size told r n name file asked own ticks keeps =
    let said = change_said o bytes in (
      subst (λ (x : List ℕ). IsDone (alone_refused_before_reading n x file said) (alone_refused_after_reading n x file said) (direct_act n x file said) (operation_answer file said) (position_line position) n (seen s log) w) asked.named.called
          (done_by tid clock o bytes position s log v w n asked.head file (asked_of tid clock o s log v may n name file asked) (r asked.head asked.named.there) (sym own) may.is_id ticks (moment_low tid clock o s log v may) (renamed o bytes n name file asked.head asked.named.called keeps) size),
      told ∙ sym (moment_of n clock v.catalog.home ticks asked.kept.has.home.greatest),
    )

-- It was not done.

refused_by : (tid : Tid) (clock : ℕ) (o : RecordOp) (bytes : List ℕ) (s : state.UnitsState) (log : Slots) (v w : VolumeState) (n : Node) (h : FileHead) (file : File) → IsAskedOf o s log v n h file → (c : Cause) → rms.DirectRefused h o (written o bytes) c s v →
    first_of (alone_refused_before_reading n h.name file (change_said o bytes)) (alone_refused_after_reading n h.name file (change_said o bytes)) ≡ Some (cause_line c)
refused_by tid clock o bytes s log v w n h file asked c (inl early) =
    first_some (alone_refused_before_reading n h.name file (change_said o bytes)) (alone_refused_after_reading n h.name file (change_said o bytes)) (cause_line c) (early_refused o bytes s log v n h file asked c early)
refused_by tid clock (op.Put g key) bytes s log v w n h file asked c (inr late) = key_refused (op.Put g key) bytes s log v w n h file asked refl tid clock late.allowed c (late.key refl)
refused_by tid clock (op.Update g key) bytes s log v w n h file asked c (inr late) = key_refused (op.Update g key) bytes s log v w n h file asked refl tid clock late.allowed c (late.key refl)
refused_by tid clock (op.Delete g key) bytes s log v w n h file asked c (inr late) = key_refused (op.Delete g key) bytes s log v w n h file asked refl tid clock late.allowed c (late.key refl)
refused_by tid clock (op.Truncate g from) bytes s log v w n h file asked c (inr late) = cut_refused g from bytes s log v w n h file asked tid clock late.allowed c (late.cut g from refl)

broken_by : (tid : Tid) (clock : ℕ) (o : RecordOp) (bytes : List ℕ) (s : state.UnitsState) (log : Slots) (v w : VolumeState) (n : Node) (h : FileHead) (file : File) → IsAskedOf o s log v n h file → rms.DirectBroke tid clock h o (written o bytes) s v w → tid_of tid ≡ next_id n → IsId (tid_of tid) →
    n.clock ≡ clock → settling.next_moment clock v.catalog.home ≤ 24113056319999 →
    KeepsUp (alone_refused_before_reading n h.name file (change_said o bytes)) (alone_refused_after_reading n h.name file (change_said o bytes)) (direct_act n h.name file (change_said o bytes)) n →
    IsBroken (alone_refused_before_reading n h.name file (change_said o bytes)) (alone_refused_after_reading n h.name file (change_said o bytes)) (direct_act n h.name file (change_said o bytes)) n w.store.disk
broken_by tid clock (op.Put g key) bytes s log v w n h file asked broke own is_id ticks moment keeps = key_broken (op.Put g key) bytes s log v w n h file asked refl tid clock broke.allowed (broke.key refl) own is_id ticks moment keeps
broken_by tid clock (op.Update g key) bytes s log v w n h file asked broke own is_id ticks moment keeps = key_broken (op.Update g key) bytes s log v w n h file asked refl tid clock broke.allowed (broke.key refl) own is_id ticks moment keeps
broken_by tid clock (op.Delete g key) bytes s log v w n h file asked broke own is_id ticks moment keeps = key_broken (op.Delete g key) bytes s log v w n h file asked refl tid clock broke.allowed (broke.key refl) own is_id ticks moment keeps
broken_by tid clock (op.Truncate g from) bytes s log v w n h file asked broke own is_id ticks moment keeps = cut_broken g from bytes s log v w n h file asked tid clock broke.allowed (broke.cut g from refl) own is_id ticks moment keeps

pub directs_err : (tid : Tid) (clock : ℕ) (o : RecordOp) (bytes : List ℕ) (e : RecErr) (s : state.UnitsState) (log : Slots) (v w : VolumeState) → MayDirect tid clock o s v →
    ((h : FileHead) → head_at v.catalog.heads (file_in o) ≡ Some h → rms.DirectsErr tid clock h o bytes e s v w) → calls.DirectsErr (tid_of tid) clock o bytes e (seen s log) v w
directs_err tid clock o bytes e s log v w may r n name file asked own ticks keeps =
    let said = change_said o bytes in
    let h = asked.head in
    let of = asked_of tid clock o s log v may n name file asked in
    subst (λ (x : List ℕ). IsNotDone e (alone_refused_before_reading n x file said) (alone_refused_after_reading n x file said) (direct_act n x file said) n w.store.disk) asked.named.called
    (not_done e (alone_refused_before_reading n h.name file said) (alone_refused_after_reading n h.name file said) (direct_act n h.name file said) n w.store.disk (λ c. rms.DirectRefused h o (written o bytes) c s v × SameVolume v w) (λ down. rms.DirectBroke tid clock h o (written o bytes) s v w) (r h asked.named.there)
    (λ c k. refused_by tid clock o bytes s log v w n h file of c k.0) (λ down broke. broken_by tid clock o bytes s log v w n h file of broke (sym own) may.is_id ticks (moment_low tid clock o s log v may) (renamed o bytes n name file asked.head asked.named.called keeps)))
