-- The map of a relative file once a cell was written, and its law.
use Rattle.std.proofs.Common.{◌≡◌, ◌≢◌, ⊎_elim, ℕ, ◌≤◌, ◌+◌, ◌-◌, ◌*◌, ◌/◌, Bool, true, false, List, [], length, take, Option, Some, None, IfSome, option_map, Result, Ok, Err, OnOk, unwrap_or, if◌then◌else◌, refl, sym, ap, subst, ◌∙◌, arith}
use Rattle.std.proofs.lemmas.Bool.{cases_eq}
use Rattle.change_set.specs.careful_write.State.{StoreState}
use Rattle.file_base.specs.declared.head.FileHead.{FileHead}
use Rattle.vms_base.specs.vms_model.Keys.{Key, Number, Text, End}
use Rattle.change_set.specs.Buckets.{with_bucket}
use Rattle.change_set.specs.Files.{IsPlaced, StagesIn}
use Rattle.change_set.specs.Maps.{set_key, same_key, StartsAt, StartsNowhere, key_before, is_after, IsNext, EndsAfter}
use Rattle.change_set.proofs.Extents.{bucket_staged, stages_more}
use Rattle.change_set.proofs.NumberKeys.{same_test, other_test, below_number, number_after, after_number}
use Rattle.file_base.specs.Bytes.{spliced}
use Rattle.relative_file.specs.Cells.{IsRelative, has_cell, cells_in, first_of, place_of, cell_at, bucket_at, cell_of, record_in, map_of, Suits, WritesCell, FindsCell, NoneFrom, IsLaidOut, Anything}
use Rattle.relative_file.specs.Local.{bucket_below}
use Rattle.relative_file.proofs.Places.{bucket_within, cell_within, in_range, apart}
use Rattle.relative_file.proofs.CellLaws.{length-cell_of, record_in-cell_of, record_in-cell_of_none}
use Rattle.relative_file.proofs.CellMoves.{cell_after_same, cell_after_other}

pick_same : (t e : Bool) (x v z : Option (List ℕ)) → t ≡ true → e ≡ true → x ≡ v → (if t then x else None) ≡ (if e then v else z)
pick_same true true x v z h k is = is
pick_same true false x v z h k is = cc
pick_same false true x v z h k is = cc
pick_same false false x v z h k is = cc

pick_other : (t e : Bool) (x y v : Option (List ℕ)) → e ≡ false → (t ≡ true → x ≡ y) → (if t then x else None) ≡ (if e then v else (if t then y else None))
pick_other true true x y v h is = cc
pick_other true false x y v h is = is refl
pick_other false true x y v h is = cc
pick_other false false x y v h is = refl

-- the bytes that a value is written as
pub record_back : (mrs : ℕ) (v : Option (List ℕ)) → IfSome v (λ r. (1 ≤ length r) × (length r ≤ mrs)) → record_in mrs (cell_of mrs (unwrap_or v [])) ≡ v
record_back mrs None h = record_in-cell_of_none mrs
record_back mrs (Some r) h = record_in-cell_of mrs r h.0 h.1

pub value_holds : (mrs : ℕ) (v : Option (List ℕ)) → IfSome v (λ r. (1 ≤ length r) × (length r ≤ mrs)) → length (unwrap_or v []) ≤ mrs
value_holds mrs None h = omega arith
value_holds mrs (Some r) h = h.1

-- numbers from 1 on are apart where they differ
pub less_one : (m n : ℕ) → 1 ≤ m → 1 ≤ n → m ≢ n → m - 1 ≢ n - 1
less_one m n a b not e = not (omega arith)

pub map_after : (h : FileHead) (b : List (List ℕ)) (n : ℕ) (v : Option (List ℕ)) (bytes : List ℕ) → IsRelative h → h.mrs + 32 ≤ 512 * h.bucket → first_of h n + h.bucket ≤ length b
    → take (512 * h.bucket) bytes ≡ spliced (bucket_at h b (first_of h n)) (place_of h n) (cell_of h.mrs (unwrap_or v [])) → length (bucket_at h b (first_of h n)) ≡ 512 * h.bucket
    → Suits h (Number n) v → map_of h (with_bucket bytes b (first_of h n) h.bucket) ≡ set_key (Number n) v (map_of h b)
map_after h b n v bytes form records within is long suits =
    let size = length-cell_of h.mrs (unwrap_or v []) (value_holds h.mrs v suits.1) in
    let place = cell_within n h.bucket h.mrs form.one records in
    λ i key. at_key size place key i
  where
    at_key : length (cell_of h.mrs (unwrap_or v [])) ≡ h.mrs + 2 → place_of h n + (h.mrs + 2) ≤ 512 * h.bucket
        → (key : Key) → map_of h (with_bucket bytes b (first_of h n) h.bucket) key ≡ set_key (Number n) v (map_of h b) key
    at_key size place (Number m) = ⊎_elim
        (λ same. pick_same (has_cell h m) (same_key (Number m) (Number n)) _ v _ (ap (has_cell h) same ∙ suits.0) (same_test m n same)
        (ap (λ k. record_in h.mrs (cell_at h (with_bucket bytes b (first_of h n) h.bucket) k)) same
        ∙ ap (record_in h.mrs) (cell_after_same h b n bytes (cell_of h.mrs (unwrap_or v [])) within is long size place) ∙ record_back h.mrs v suits.1))
        (λ not. pick_other (has_cell h m) (same_key (Number m) (Number n)) _ _ v (other_test m n not)
        (λ there. ap (record_in h.mrs) (cell_after_other h b n m bytes (cell_of h.mrs (unwrap_or v [])) within is long size place (cell_within m h.bucket h.mrs form.one records)
        (apart (m - 1) (n - 1) (cells_in h) (less_one m n (in_range m h.mrn there).0 (in_range n h.mrn suits.0).0 not)))))
        (cases_eq m n)
    at_key size place (Text t) = refl
    at_key size place End = refl

-- the same where the blocks are told
pub map_set : (h : FileHead) (n : ℕ) (v : Option (List ℕ)) (old new : StoreState) → IsRelative h → IsPlaced h old.disk → Suits h (Number n) v
    → IfSome old.current (λ b. length b + 518 ≡ old.disk.size) → WritesCell h n (unwrap_or v []) old new
    → option_map (map_of h) new.current ≡ option_map (λ b. set_key (Number n) v (map_of h b)) old.current
map_set h n v old new form placed suits whole writes =
    ap (λ (s : StoreState). option_map (map_of h) s.current) writes.state ∙ told old.current whole writes.is writes.long
  where
    told : (current : Option (List (List ℕ))) → IfSome current (λ b. length b + 518 ≡ old.disk.size)
        → IfSome current (λ b. take (512 * h.bucket) writes.bytes ≡ spliced (bucket_at h b (first_of h n)) (place_of h n) (cell_of h.mrs (unwrap_or v [])))
        → IfSome current (λ b. length (bucket_at h b (first_of h n)) ≡ 512 * h.bucket)
        → option_map (map_of h) (option_map (λ b. with_bucket writes.bytes b (first_of h n) h.bucket) current) ≡ option_map (λ b. set_key (Number n) v (map_of h b)) current
    told None whole is long = refl
    told (Some b) whole is long =
        let lies = bucket_within n h.mrn h.alloc (cells_in h) h.bucket suits.0 form.cells form.one in
        ap Some (map_after h b n v writes.bytes form placed.records (omega (arith, lies, placed.to, placed.from, whole)) is long suits)

-- what is staged lies in the extent
staged_in : (h : FileHead) (n : ℕ) (value : List ℕ) (old new : StoreState) → IsRelative h → has_cell h n ≡ true → WritesCell h n value old new → StagesIn h h.bucket old new
staged_in h n value old new form there writes =
    let range = in_range n h.mrn there in
    let below = bucket_below n h.alloc (cells_in h) range.0 (omega (arith, range.1, form.cells)) form.one in
    bucket_staged h ((n - 1) / cells_in h) writes.bytes old new below writes.state

-- one bucket is no more than what a change may stage
pub stages_two : (h : FileHead) (old new : StoreState) → StagesIn h h.bucket old new → StagesIn h ((2 * h.levels + 2) * h.bucket) old new
stages_two h old new stages = stages_more h h.bucket ((2 * h.levels + 2) * h.bucket) old new (enough h.levels h.bucket) stages
  where
    enough : (levels size : ℕ) → size ≤ (2 * levels + 2) * size
    enough levels size = let e : (2 * levels + 2) * size ≡ 2 * (levels * size) + 2 * size = omega arith in omega arith

pub record Finished (h : FileHead) (key : Key) (v : Option (List ℕ)) (old new : StoreState) : Type 0 where
  pub map_is : option_map (map_of h) new.current ≡ option_map (λ b. set_key key v (map_of h b)) old.current
  pub staged : StagesIn h h.bucket old new

-- a call that wrote a cell has set the key
pub finished : (h : FileHead) (key : Key) (n : ℕ) (v : Option (List ℕ)) (value : List ℕ) (old new : StoreState) → key ≡ Number n → value ≡ unwrap_or v [] → Suits h key v → IsRelative h → IsPlaced h old.disk
    → IfSome old.current (λ b. length b + 518 ≡ old.disk.size) → WritesCell h n value old new → Finished h key v old new
finished h key n v value old new is bytes suits form placed whole writes =
    let suits' : Suits h (Number n) v = subst (λ (k : Key). Suits h k v) is suits in
    let writes' : WritesCell h n (unwrap_or v []) old new = subst (λ (b : List ℕ). WritesCell h n b old new) bytes writes in
    record {
      map_is = map_set h n v old new form placed suits' whole writes' ∙ ap (λ (k : Key). option_map (λ b. set_key k v (map_of h b)) old.current) (sym is);
      staged = staged_in h n value old new form suits'.0 writes;
    }

-- what a call told of the blocks, by its answer

pub told_map : {E : Type 0} {M : Type 0} (r : Result (Unit {0}) E) (h : FileHead) (told : Option (List (List ℕ))) (now : Option M) (f : List (List ℕ) → M) → OnOk r (now ≡ option_map f told)
    → OnOk r (IfSome told (λ b. IsLaidOut h b → Anything → now ≡ Some (f b)))
told_map (Ok x) h None now f is = tt
told_map (Ok x) h (Some b) now f is = λ valid any. is
told_map (Err e) h told now f is = tt

pub told_valid : {E : Type 0} (r : Result (Unit {0}) E) (h : FileHead) (told now : Option (List (List ℕ))) → OnOk r (IfSome told (λ b. IsLaidOut h b → IfSome now (IsLaidOut h)))
    → OnOk r (IfSome told (λ b. IsLaidOut h b → Anything → IfSome now (IsLaidOut h)))
told_valid (Ok x) h None now is = tt
told_valid (Ok x) h (Some b) now is = λ valid any. is valid
told_valid (Err e) h told now is = tt

-- the next key

if_true : (t : Bool) (x : Option (List ℕ)) → t ≡ true → (if t then x else None) ≡ x
if_true true x h = refl
if_true false x h = cc

pub if_none : (t : Bool) (x : Option (List ℕ)) → (t ≡ true → x ≡ None) → (if t then x else None) ≡ None
if_none true x h = h refl
if_none false x h = refl

pub next_found : (told : Option (List (List ℕ))) (h : FileHead) (from n : ℕ) (after : Option Key) (bytes : List ℕ) → StartsAt from after → IfSome told (FindsCell h from n bytes)
    → IfSome told (λ b. IsNext (map_of h b) after (Number n) bytes)
next_found None h from n after bytes starts finds = tt
next_found (Some b) h from n after bytes starts finds = record {
  has = if_true (has_cell h n) _ finds.there ∙ finds.has;
  behind = after_number from n after starts finds.behind;
  least = λ other is before. at_key other is before;
}
  where
    at_key : (other : Key) → is_after after other ≡ true → key_before other (Number n) ≡ true → map_of h b other ≡ None
    at_key (Number m) is before = if_none (has_cell h m) _ (λ there.
        finds.least m (number_after from m after starts is (in_range m h.mrn there).0) (let below = below_number m n before in omega (arith, below)))
    at_key (Text t) is before = refl
    at_key End is before = refl

pub next_none : (told : Option (List (List ℕ))) (h : FileHead) (from : ℕ) (after : Option Key) → StartsAt from after → IfSome told (λ b. NoneFrom h b from h.mrn) → IfSome told (λ b. EndsAfter (map_of h b) after)
next_none None h from after starts none = tt
next_none (Some b) h from after starts none = λ other is. at_key other is
  where
    at_key : (other : Key) → is_after after other ≡ true → map_of h b other ≡ None
    at_key (Number m) is = if_none (has_cell h m) _ (λ there. none m (number_after from m after starts is (in_range m h.mrn there).0) (in_range m h.mrn there).1)
    at_key (Text t) is = refl
    at_key End is = refl

pub next_nowhere : (told : Option (List (List ℕ))) (h : FileHead) (after : Option Key) → StartsNowhere after → IfSome told (λ b. EndsAfter (map_of h b) after)
next_nowhere None h after starts = tt
next_nowhere (Some b) h after starts = λ other is. at_key after starts other is
  where
    at_key : (a : Option Key) → StartsNowhere a → (other : Key) → is_after a other ≡ true → map_of h b other ≡ None
    at_key None starts (Number m) is = absurd starts
    at_key (Some (Number k)) starts (Number m) is = absurd starts
    at_key (Some (Text t)) starts (Number m) is = cc
    at_key (Some End) starts (Number m) is = cc
    at_key a starts (Text t) is = refl
    at_key a starts End is = refl
