-- What is set by a change that nothing refuses: it suits its file, and the file takes it; and what stands there can be noted.
use Rattle.std.proofs.Common.{◌≡◌, ℕ, zero, suc, ◌+◌, ◌-◌, ◌<◌, ◌≤◌, List, Bool, true, false, not, ◌||◌, ◌&&◌, Option, Some, None, length, drop, if◌then◌else◌, refl, sym, ◌∙◌, ap, subst, arith, inl, inr, length-take-le, length-drop}
use Rattle.std.proofs.lemmas.Bool.{false≢true, ltb-false, or_parts}
use Rattle.std.proofs.lemmas.Bool.Decides.{Decides-eqb, nat_tests}
use Rattle.std.specs.Prelude.{option_map, nat_lt, nat_le, ◌==◌, IsSomeAnd}
use Rattle.std.specs.Ordering.{eq_by_cmp}
use Rattle.file_base.specs.declared.head.FileHead.{FileHead}
use Rattle.file_base.specs.declared.head.Organization.{Organization as Kept}
use Rattle.file_base.specs.declared.head.Organization.TheVariants as kept
use Rattle.vms_model.specs.Keys.{Key, Number, Text, End}
use Rattle.vms_base.specs.Keys.{key_of}
use Rattle.vms_base.specs.declared.keys.Key.{Key as VmsKey}
use Rattle.records_model.specs.Records.{key_cmp}
use Rattle.records_model.proofs.RecordsLemmas.{same_key}
use Rattle.volume_files.specs.record_files.Any.{FormBy, IsFile, Suits, SuitsBy, Takes, TakesBy, asks, asks_by, map_by, map_of}
use Rattle.record_operations.specs.Asking.{is_of_key, written}
use Rattle.record_operations.specs.Causes.{BadParameter, BadRecordNumber, BadRecordSize, FileFull, KeyChanged}
use Rattle.record_operations.specs.Forms as form
use Rattle.record_operations.specs.declared.ops.RecordOp.{RecordOp}
use Rattle.record_operations.specs.declared.ops.RecordOp.TheVariants as op
use Rattle.recovery_units.specs.Calls.{IsNumber, IsNumbered}
use Rattle.rms_units.specs.key_changes.declared.asked.KeyChange.TheVariants as how
use Rattle.rms_units.specs.key_changes.Changing as rms
use Rattle.rms_units.specs.key_changes.Changing.{after_change, found_refused, key_within}
use Rattle.rms_units.specs.key_changes.Keys.{change_in, key_in, key_put}
use Rattle.rms_units.proofs.RoomLemmas.{not_refused}
use Rattle.node_units.proofs.AskedKey.{Content, behind_last}
use Rattle.node_units.proofs.ReadLemmas.{first_none}

-- What is not refused.

not_more : (x y : ℕ) → nat_lt x y ≡ false → y ≤ x
not_more x y e = ltb-false x y e

sizes : (o : Kept) (h : FileHead) (size : ℕ) → h.organization ≡ o → form.size_refused h size ≡ None → (form.least_size_by o h ≤ size) × (size ≤ h.mrs)
sizes o h size is none =
    let parts = or_parts (nat_lt size (form.least_size h)) (nat_lt h.mrs size) (not_refused (nat_lt size (form.least_size h) || nat_lt h.mrs size) BadRecordSize none) in
    (subst (λ (q : Kept). form.least_size_by q h ≤ size) is (not_more size (form.least_size h) parts.0), not_more h.mrs size parts.1)

room : (h : FileHead) (need : ℕ) → rms.file_refused h need ≡ None → need ≤ h.alloc - h.used
room h need none = not_more (h.alloc - h.used) need (not_refused (nat_lt (h.alloc - h.used) need) (FileFull (h.alloc - h.used) need) none)

cell_is : (n mrn : ℕ) → (nat_lt n 1 || nat_lt mrn n) ≡ false → (nat_le 1 n && nat_le n mrn) ≡ true
cell_is n mrn e = grind (arith, nat_tests)

not_not : (b : Bool) → not b ≡ false → b ≡ true
not_not true e = refl
not_not false e = let never : ⊥ = cc in absurd never

-- the key of a record is in it
within_long : (pos size : ℕ) (r : List ℕ) → pos + size ≤ length r → length (key_within pos size r) ≡ size
within_long pos size r fits = length-take-le size (drop pos r) (let left = length-drop pos r in omega (arith, left, fits))

-- Each organization.

-- a record that is put, where so many buckets are free
put_by : (o : Kept) (h : FileHead) (a : Content) (k : Option Key) (r : List ℕ) → h.organization ≡ o → FormBy o h → (o ≡ kept.Sequential → h.count < 4294967295) → form.place_refused_by o h k ≡ None → IsNumber k → form.least_size_by o h ≤ length r → length r ≤ h.mrs →
    asks_by o h a (length r) ≤ h.alloc - h.used → SuitsBy o h (key_put o h k r) (Some r) × TakesBy o h a (key_put o h k r) (Some r)
put_by kept.Sequential h a None r is f few placed number least most fits =
    let last = behind_last h.count (few refl) in (
      (omega (arith, last), record { one = least; most = most }),
      inl (last, (let used = f.used in omega (arith, used, fits))),
    )
put_by kept.Sequential h a (Some k) r is f few placed number least most fits = let never : ⊥ = cc in absurd never
put_by kept.Relative h a None r is f few placed number least most fits = let never : ⊥ = cc in absurd never
put_by kept.Relative h a (Some (Number n)) r is f few placed number least most fits =
    let right : form.key_refused_by kept.Relative h (Number n) ≡ None = ap (λ q. form.key_refused_by q h (Number n)) (sym is) ∙ placed in
    ((cell_is n h.mrn (not_refused (nat_lt n 1 || nat_lt h.mrn n) BadRecordNumber right), (least, most)), tt)
put_by kept.Relative h a (Some (Text t)) r is f few placed number least most fits = absurd number
put_by kept.Relative h a (Some End) r is f few placed number least most fits = absurd number
put_by kept.Indexed h a None r is f few placed number least most fits = (
  record { size = within_long h.key_pos h.key_size r (omega (arith, least)); has = refl; most = most },
  inr (let used = f.root.within in omega (arith, used, fits)),
)
put_by kept.Indexed h a (Some k) r is f few placed number least most fits = let never : ⊥ = cc in absurd never

-- a record that takes the place of another
update_by : (o : Kept) (h : FileHead) (a : Content) (k : Key) (old r : List ℕ) → h.organization ≡ o → FormBy o h → form.key_refused_by o h k ≡ None → map_by o h a k ≡ Some old → rms.other_refused_by o h k old r ≡ None → form.least_size_by o h ≤ length r → length r ≤ h.mrs →
    (o ≡ kept.Indexed → asks_by o h a (length r) ≤ h.alloc - h.used) → SuitsBy o h k (Some r) × TakesBy o h a k (Some r)
update_by kept.Sequential h a (Number zero) old r is f right there alike least most fits = let never : ⊥ = cc in absurd never
update_by kept.Sequential h a (Number (suc n)) old r is f right there alike least most fits =
    let same : length old ≡ length r = (Decides-eqb (length old) (length r)).0 (not_not (length old == length r) (not_refused (not (length old == length r)) BadRecordSize alike)) in (
      (omega arith, record { one = least; most = most }),
      inr (subst (λ (x : Option (List ℕ)). IsSomeAnd x (λ q. length r ≡ length q)) (sym there) (sym same)),
    )
update_by kept.Sequential h a (Text t) old r is f right there alike least most fits = let never : ⊥ = cc in absurd never
update_by kept.Sequential h a End old r is f right there alike least most fits = let never : ⊥ = cc in absurd never
update_by kept.Relative h a (Number n) old r is f right there alike least most fits =
    ((cell_is n h.mrn (not_refused (nat_lt n 1 || nat_lt h.mrn n) BadRecordNumber right), (least, most)), tt)
update_by kept.Relative h a (Text t) old r is f right there alike least most fits = let never : ⊥ = cc in absurd never
update_by kept.Relative h a End old r is f right there alike least most fits = let never : ⊥ = cc in absurd never
update_by kept.Indexed h a (Number n) old r is f right there alike least most fits = let never : ⊥ = cc in absurd never
update_by kept.Indexed h a (Text t) old r is f right there alike least most fits =
    let own = Text (key_within h.key_pos h.key_size r) in
    let both : Text t ≡ own = same_key (Text t) own (not_not (eq_by_cmp key_cmp (Text t) own) (not_refused (not (eq_by_cmp key_cmp (Text t) own)) KeyChanged alike)) in
    let same : t ≡ key_within h.key_pos h.key_size r = cc in
    let size : length t ≡ h.key_size = (Decides-eqb (length t) h.key_size).0 (not_not (length t == h.key_size) (not_refused (not (length t == h.key_size)) BadParameter right)) in (
      record { size = size; has = sym same; most = most },
      inr (let used = f.root.within in let free = fits refl in omega (arith, used, free)),
    )
update_by kept.Indexed h a End old r is f right there alike least most fits = let never : ⊥ = cc in absurd never

-- a record that goes
delete_by : (o : Kept) (h : FileHead) (a : Content) (k : Key) → form.key_refused_by o h k ≡ None → form.delete_refused_by o ≡ None → SuitsBy o h k None × TakesBy o h a k None
delete_by kept.Sequential h a k right may = let never : ⊥ = cc in absurd never
delete_by kept.Relative h a (Number n) right may = ((cell_is n h.mrn (not_refused (nat_lt n 1 || nat_lt h.mrn n) BadRecordNumber right), tt), tt)
delete_by kept.Relative h a (Text t) right may = let never : ⊥ = cc in absurd never
delete_by kept.Relative h a End right may = let never : ⊥ = cc in absurd never
delete_by kept.Indexed h a (Number n) right may = let never : ⊥ = cc in absurd never
delete_by kept.Indexed h a (Text t) right may =
    let size : length t ≡ h.key_size = (Decides-eqb (length t) h.key_size).0 (not_not (length t == h.key_size) (not_refused (not (length t == h.key_size)) BadParameter right)) in
    (record { size = size; has = tt; most = tt }, inl (omega arith))
delete_by kept.Indexed h a End right may = let never : ⊥ = cc in absurd never

-- Any file.

free_for : (h : FileHead) (a : Content) (need : ℕ) (o : Kept) → h.organization ≡ o → asks h a need ≤ h.alloc - h.used → asks_by o h a need ≤ h.alloc - h.used
free_for h a need o is fits = subst (λ (q : Kept). asks_by q h a need ≤ h.alloc - h.used) is fits

replaced : (h : FileHead) (k : Key) (found : Option (List ℕ)) (r : List ℕ) → found_refused h how.Replace k found r ≡ None → (old : List ℕ) × (found ≡ Some old) × (rms.other_refused_by h.organization h k old r ≡ None)
replaced h k None r none = let never : ⊥ = cc in absurd never
replaced h k (Some old) r none = (old, refl, none)

module _ (h : FileHead) (a : Content) (is : IsFile h) (few : h.organization ≡ kept.Sequential → h.count < 4294967295) where
  may_put : (f : ℕ) (key : Option VmsKey) (r : List ℕ) → IsNumber (option_map key_of key) → form.form_refused h (op.Put f key) (length r) ≡ None → rms.file_refused h (rms.need_of h a how.Put (length r)) ≡ None →
      Suits h (key_put h.organization h (option_map key_of key) r) (Some r) × Takes h a (key_put h.organization h (option_map key_of key) r) (Some r)
  may_put f key r number none full =
      let k = option_map key_of key in
      let parts = first_none (form.place_refused h k) (form.size_refused h (length r)) none in
      let size = sizes h.organization h (length r) refl parts.1 in
      put_by h.organization h a k r refl is few parts.0 number size.0 size.1 (room h (asks h a (length r)) full)

  may_replace : (f : ℕ) (key : VmsKey) (r : List ℕ) → form.form_refused h (op.Update f key) (length r) ≡ None → found_refused h how.Replace (key_of key) (map_of h a (key_of key)) r ≡ None → rms.file_refused h (rms.need_of h a how.Replace (length r)) ≡ None →
      Suits h (key_of key) (Some r) × Takes h a (key_of key) (Some r)
  may_replace f key r none found full =
      let k = key_of key in
      let parts = first_none (form.key_refused h k) (form.size_refused h (length r)) none in
      let size = sizes h.organization h (length r) refl parts.1 in
      let at = replaced h k (map_of h a k) r found in
      update_by h.organization h a k at.0 r refl is parts.0 at.1 at.2 size.0 size.1
      (λ e. subst (λ need. need ≤ h.alloc - h.used) (ap (λ q. if rms.asks_by q how.Replace then asks h a (length r) else 0) e) (room h (rms.need_of h a how.Replace (length r)) full))

  may_remove : (f : ℕ) (key : VmsKey) → form.form_refused h (op.Delete f key) 0 ≡ None → Suits h (key_of key) None × Takes h a (key_of key) None
  may_remove f key none = let parts = first_none (form.key_refused h (key_of key)) (form.delete_refused h) none in delete_by h.organization h a (key_of key) parts.0 parts.1

  -- a change of one key that nothing refuses
  pub may_set : (o : RecordOp) (bytes : List ℕ) → is_of_key o ≡ true → IsNumbered o → form.form_refused h o (length (written o bytes)) ≡ None →
      found_refused h (change_in o) (key_in h o (written o bytes)) (map_of h a (key_in h o (written o bytes))) (written o bytes) ≡ None → rms.file_refused h (rms.need_of h a (change_in o) (length (written o bytes))) ≡ None →
      Suits h (key_in h o (written o bytes)) (after_change (change_in o) (written o bytes)) × Takes h a (key_in h o (written o bytes)) (after_change (change_in o) (written o bytes))
  may_set (op.Put f key) bytes one number none found full = may_put f key bytes number none full
  may_set (op.Update f key) bytes one number none found full = may_replace f key bytes none found full
  may_set (op.Delete f key) bytes one number none found full = may_remove f key none
  may_set (op.Truncate f from) bytes one number none found full = absurd (false≢true one)
