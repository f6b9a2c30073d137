-- A change by its operation: of a key, or of the records from a position on.
use Rattle.std.proofs.Common.{◌≡◌, ◌||◌, ℕ, ◌≤◌, Bool, true, false, not, List, [], length, Option, Some, None, Result, Ok, Err, IfOk, OnOk, refl, sym, ap, subst, ◌∙◌, arith}
use Rattle.std.specs.Prelude.{nat_lt}
use Rattle.std.proofs.lemmas.Bool.{false≢true, ltb-false}
use Rattle.file_base.specs.declared.head.FileHead.{FileHead}
use Rattle.file_base.specs.declared.head.Organization.{Organization}
use Rattle.file_base.specs.declared.head.Organization.TheVariants.{Sequential, Relative, Indexed}
use Rattle.record_operations.specs.Asking.{is_of_key, written}
use Rattle.record_operations.specs.Causes.{BadRecordSize, Cause, NeedsUnit, NotForUnits, cause_if, first_cause}
use Rattle.record_operations.specs.Forms.{form_refused, key_refused, least_size, place_refused, size_refused}
use Rattle.record_operations.specs.declared.ops.RecordOp.{RecordOp}
use Rattle.record_operations.specs.declared.ops.RecordOp.TheVariants as op
use Rattle.vms_model.specs.Keys.{Key}
use Rattle.volume.specs.Catalogs.{IsSound, head_at}
use Rattle.volume.specs.Limits.{KeysFit}
use Rattle.volume.specs.State.{VolumeState}
use Rattle.volume_files.proofs.Places.{fits_at}
use Rattle.key_changes.specs.declared.asked.KeyChange.{KeyChange}
use Rattle.key_changes.specs.declared.asked.KeyChange.TheVariants as change
use Rattle.rms_units.specs.Calls.{change_refused_before_reading, direct_refused_before_reading}
use Rattle.key_changes.specs.Keys.{change_in, key_in, position_by}
use Rattle.rms_units.specs.State.{IsInOrder, UnitsState}
use Rattle.rms_units.proofs.Refusing.{second_is}
use Rattle.rms_units.proofs.RoomLemmas.{not_refused}

-- What is allowed before keys are looked at.

pub change_allowed : (h : FileHead) (o : RecordOp) (value : List ℕ) → form_refused h o (length value) ≡ None → h.marks.ru ≡ true → change_refused_before_reading h o value ≡ None
change_allowed h o value form marked = second_is (form_refused h o (length value)) (cause_if (not h.marks.ru) NotForUnits) None form (ap (λ (b : Bool). cause_if (not b) NotForUnits) marked)

pub direct_allowed : (h : FileHead) (o : RecordOp) (value : List ℕ) → form_refused h o (length value) ≡ None → h.marks.ru ≡ false → direct_refused_before_reading h o value ≡ None
direct_allowed h o value form marked = second_is (form_refused h o (length value)) (cause_if h.marks.ru NeedsUnit) None form (ap (λ (b : Bool). cause_if b NeedsUnit) marked)

-- What a form allows.

late_none : (a b : Option Cause) → first_cause a b ≡ None → b ≡ None
late_none None b is = is
late_none (Some x) b is = let never : ⊥ = cc in absurd never

right_false : (a b : Bool) → (a || b) ≡ false → b ≡ false
right_false true b is = absurd (false≢true (sym is))
right_false false b is = is

size_few : (h : FileHead) (size : ℕ) → h.mrs ≤ 8160 → size_refused h size ≡ None → size ≤ 8160
size_few h size few is =
    let le : size ≤ h.mrs = ltb-false h.mrs size (right_false (nat_lt size (least_size h)) (nat_lt h.mrs size) (not_refused (nat_lt size (least_size h) || nat_lt h.mrs size) BadRecordSize is)) in
    omega (arith, le, few)

value_few : (h : FileHead) (o : RecordOp) (bytes : List ℕ) → h.mrs ≤ 8160 → is_of_key o ≡ true → form_refused h o (length (written o bytes)) ≡ None → length (written o bytes) ≤ 8160
value_few h (op.Put file key) bytes few one form = size_few h (length bytes) few (late_none _ (size_refused h (length bytes)) form)
value_few h (op.Update file key) bytes few one form = size_few h (length bytes) few (late_none _ (size_refused h (length bytes)) form)
value_few h (op.Delete file key) bytes few one form = omega arith
value_few h (op.Truncate file from) bytes few one form = absurd (false≢true one)

keys_fit : (o : Organization) (h : FileHead) → KeysFit o h → o ≡ Indexed → (1 ≤ h.key_size) × (h.key_size ≤ 64)
keys_fit Sequential h fits is = let never : ⊥ = cc in absurd never
keys_fit Relative h fits is = let never : ⊥ = cc in absurd never
keys_fit Indexed h fits is = (fits.1, fits.2)

-- what is asked of a change of a key that a form allows
module _ (s : UnitsState) (v : VolumeState) (o : IsInOrder s v) (f : ℕ) (h : FileHead) (there : head_at v.catalog.heads f ≡ Some h) where
  pub sizes_fit : h.organization ≡ Indexed → (1 ≤ h.key_size) × (h.key_size ≤ 64)
  sizes_fit = let fits = fits_at v.catalog.home.node v.store.disk.size v.catalog f h o.heads o.sound there in keys_fit h.organization h fits.keys

  pub value_fits : (q : RecordOp) (bytes : List ℕ) → is_of_key q ≡ true → form_refused h q (length (written q bytes)) ≡ None → length (written q bytes) ≤ 8160
  value_fits q bytes one form = let fits = fits_at v.catalog.home.node v.store.disk.size v.catalog f h o.heads o.sound there in value_few h q bytes fits.bucket.most_record one form

-- An operation that is no truncation, and one that is.

pub of_key : (o : RecordOp) → ((file from : ℕ) → o ≡ op.Truncate file from → ⊥) → is_of_key o ≡ true
of_key (op.Put file key) other = refl
of_key (op.Update file key) other = refl
of_key (op.Delete file key) other = refl
of_key (op.Truncate file from) other = absurd (other file from refl)

pub no_cut : (o : RecordOp) → is_of_key o ≡ true → (file from : ℕ) → o ≡ op.Truncate file from → ⊥
no_cut o one file from is = false≢true (sym (ap is_of_key is) ∙ one)

module _ (o : RecordOp) (file from : ℕ) (is : o ≡ op.Truncate file from) where
  pub no_key : is_of_key o ≡ true → ⊥
  no_key one = no_cut o one file from is

  pub same_cut : (P : ℕ → ℕ → Type 0) → P file from → (f g : ℕ) → o ≡ op.Truncate f g → P f g
  same_cut P p f g other =
      let both : op.Truncate file from ≡ op.Truncate f g = sym is ∙ other in
      let a : file ≡ f = cc in
      let b : from ≡ g = cc in
      subst (λ (n : ℕ). P f n) b (subst (λ (n : ℕ). P n from) a p)

  none : (q : Organization) (key : Key) → 0 ≡ position_by q change.Remove key
  none Sequential key = refl
  none Relative key = refl
  none Indexed key = refl

  pub no_position : (h : FileHead) (value : List ℕ) → 0 ≡ position_by h.organization (change_in o) (key_in h o value)
  no_position h value = subst (λ (x : RecordOp). 0 ≡ position_by h.organization (change_in x) (key_in h x value)) (sym is) (none h.organization (key_in h (op.Truncate file from) value))

-- What is told of a change of a key is told of equal ones.
pub retold : (P : ℕ → FileHead → KeyChange → Key → List ℕ → Type 0) (f g : ℕ) (h i : FileHead) (a b : KeyChange) (j k : Key) (x y : List ℕ) → f ≡ g → h ≡ i → a ≡ b → j ≡ k → x ≡ y → P f h a j x → P g i b k y
retold P f g h i a b j k x y e1 e2 e3 e4 e5 p =
    subst (λ (n : ℕ). P n i b k y) e1 (subst (λ (n : FileHead). P f n b k y) e2 (subst (λ (n : KeyChange). P f h n k y) e3 (subst (λ (n : Key). P f h a n y) e4 (subst (λ (n : List ℕ). P f h a j n) e5 p))))

-- what an answer of Ok tells, by what is known of it and of its value
pub ok_with : {T E : Type 0} (A : Type 0) (P Q : T → Type 0) (r : Result T E) → OnOk r A → IfOk r P → ((x : T) → A → P x → Q x) → IfOk r Q
ok_with A P Q (Ok x) a p f = f x a p
ok_with A P Q (Err e) a p f = tt
