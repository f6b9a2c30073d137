-- What refuses a read, once a record was found, and that reads leave all in order.
use Rattle.std.proofs.Common.{◌≡◌, ℕ, List, [], ◌∷◌, Bool, true, not, Option, Some, None, refl, sym, ap, subst, ◌∙◌, inr}
use Rattle.careful_write.specs.Reads.{as_read_by}
use Rattle.careful_write.specs.declared.down.Down.{Down}
use Rattle.careful_write.proofs.Reading.{idle_read}
use Rattle.file_base.specs.declared.head.FileHead.{FileHead}
use Rattle.record_operations.specs.Asking.{read_file_in}
use Rattle.record_operations.specs.Causes.{Cause, IfRefused, IsRefusal, NotForUnits, cause_if, cause_of}
use Rattle.record_operations.specs.Forms.{read_form_refused}
use Rattle.record_operations.specs.declared.errors.RecErr.{RecErr}
use Rattle.record_operations.specs.declared.ops.ReadOp.{ReadOp}
use Rattle.record_locks.specs.Locks.{Lock}
use Rattle.unit_table.specs.Units.{OpenUnit, Units}
use Rattle.vms_model.specs.Keys.{Key}
use Rattle.volume.specs.State.{SameVolume, VolumeState}
use Rattle.rms_units.specs.Calls.{ReadRefused, read_refused_before_reading}
use Rattle.key_changes.specs.Changing.{keys_refused}
use Rattle.rms_units.specs.Reading.{Finds}
use Rattle.key_changes.specs.unit_cuts.Records.{OfRecords}
use Rattle.rms_units.specs.State.{IsInOrder, UnitsState}
use Rattle.rms_units.proofs.Refusing.{refused_by, second_is}

pub read_allowed : (h : FileHead) (op : ReadOp) → read_form_refused h op ≡ None → h.marks.ru ≡ true → read_refused_before_reading h op ≡ None
read_allowed h op form marked = second_is (read_form_refused h op) (cause_if (not h.marks.ru) NotForUnits) None form (ap (λ (b : Bool). cause_if (not b) NotForUnits) marked)

pub hold_refused : (e : RecErr) (u : OpenUnit) (h : FileHead) (op : ReadOp) (key : Key) (bytes : List ℕ) (s : UnitsState) (v w : VolumeState) (Q : Down → Type 0) → read_refused_before_reading h op ≡ None → OfRecords h v (Finds op (Some u.serial) s.locks key bytes) →
    cause_of e ≡ keys_refused (read_file_in op) (key ∷ []) s.locks → IsRefusal e → SameVolume v w → IfRefused e (λ cause. ReadRefused u h op cause s v × SameVolume v w) Q
hold_refused e u h op key bytes s v w Q early finds is some same =
    refused_by e (keys_refused (read_file_in op) (key ∷ []) s.locks) (λ cause. ReadRefused u h op cause s v × SameVolume v w) Q is some
    (λ cause told. (inr (inr (early, (key, bytes, finds, told))), same))

-- units and a volume stay in order where blocks are read
pub order_same : (s : UnitsState) (v w : VolumeState) → SameVolume v w → IsInOrder s v → IsInOrder s w
order_same s v w same o = subst (IsInOrder s) (sym same)
    record {
      idle = idle_read v.store (as_read_by w.store v.store) refl o.idle;
      frames = o.frames;
      heads = o.heads;
      sound = o.sound;
      holds = o.holds;
      least = o.least;
      most = o.most;
      ascends = o.ascends;
      room = o.room;
      within = o.within;
      ascending = o.ascending;
      images = o.images;
    }

-- whatever keys are held
other_keys : (s : UnitsState) (ls : List Lock) (v : VolumeState) → IsInOrder s v → (let t : UnitsState = record { units = s.units; locks = ls } in IsInOrder t v)
other_keys s ls v o = record {
  idle = o.idle;
  frames = o.frames;
  heads = o.heads;
  sound = o.sound;
  holds = o.holds;
  least = o.least;
  most = o.most;
  ascends = o.ascends;
  room = o.room;
  within = o.within;
  ascending = o.ascending;
  images = o.images;
}

pub order_held : (s : UnitsState) (us : Units) (ls : List Lock) (v w : VolumeState) → us ≡ s.units → SameVolume v w → IsInOrder s v → (let t : UnitsState = record { units = us; locks = ls } in IsInOrder t w)
order_held s us ls v w is same o =
    subst (λ (x : Units). (let t : UnitsState = record { units = x; locks = ls } in IsInOrder t w)) (sym is) (other_keys s ls w (order_same s v w same o))
