-- The map of a file once its records have changed.
use Rattle.std.proofs.Common.{◌≡◌, ◌⊎◌, ⊎_elim, inl, inr, ℕ, zero, suc, ◌<◌, ◌≤◌, ◌+◌, ◌-◌, ◌*◌, ◌++◌, true, List, [], ◌∷◌, length, length-append, take, get_or, Option, Some, None, IfSome, IsSomeAnd, option_map, refl, sym, ap, subst, ◌∙◌, arith}
use Rattle.std.proofs.lemmas.Bool.{cases_lt}
use Rattle.std.proofs.lemmas.List.{length-take-le}
use Rattle.std.proofs.lemmas.Nat.{mul-le}
use Rattle.std.proofs.lemmas.Option.{slice_get-get_or}
use Rattle.change_set.specs.careful_write.State.{StoreState}
use Rattle.file_base.specs.declared.head.FileHead.{FileHead}
use Rattle.file_base.specs.vms_model.Keys.{Key, Number, Text, End}
use Rattle.change_set.specs.Files.{StagesIn, SameFile}
use Rattle.change_set.specs.Maps.{set_key, key_before, is_after, IsNext, EndsAfter, StartsAt, StartsNowhere, empty_map}
use Rattle.change_set.proofs.Extents.{stages_more}
use Rattle.change_set.proofs.NumberKeys.{below_number, number_after, after_number}
use Rattle.seq_file.specs.Placing.{buckets_for}
use Rattle.seq_file.specs.Records.{record_at, map_of_list, list_set, cut_from, slot_sizes, MaySet}
use Rattle.seq_file.specs.Layout.{map_of, records_in, capacity, asks, used_after, UsedBefore, IsSequential, IsLaidOut, Takes, TakesAt, Becomes}
use Rattle.seq_file.specs.Frames.{Changes}
use Rattle.seq_file.proofs.FileLaws.{used_is, asked_is_placed}
use Rattle.seq_file.proofs.MapLaws.{map_set, map_cut}
use Rattle.seq_file.proofs.RecordLaws.{record_at_past, record_at_set, list_set_none, list_set_next, list_set_stands, one_list}

abbrev Blocks : Type 0
Blocks = List (List ℕ)

none_stands : (o : Option (List ℕ)) (r : List ℕ) → o ≡ None → IsSomeAnd o (λ old. length r ≡ length old) → ⊥
none_stands None r is h = h
none_stands (Some x) r is h = cc

may_set : (h : FileHead) (n : ℕ) (v : Option (List ℕ)) (b : Blocks) → 1 ≤ n → TakesAt h n v b → MaySet n v (records_in h b)
may_set h n None b one given = (one, let size = given.0.count in let last = given.1 in omega arith)
may_set h n (Some r) b one given = (
  one,
  ⊎_elim (λ next. let size = given.0.count in let is = next.0 in omega arith)
      (λ stands. ⊎_elim (λ less. omega arith) (λ past. absurd (none_stands (record_at (records_in h b) n) r (record_at_past (records_in h b) n (omega arith)) stands)) (cases_lt n (length (records_in h b) + 1))) given.1,
)

-- the file has other records
record Has (h h' : FileHead) (now : Option Blocks) (after : Blocks → Blocks) (b : Blocks) : Type 0 where
  map_is : option_map (map_of h') now ≡ Some (map_of_list (after (records_in h b)))
  valid : IfSome now (IsLaidOut h')
  used : h'.used ≡ buckets_for (capacity h) (slot_sizes (after (records_in h b)))

has : (h h' : FileHead) (now : Option Blocks) (after : Blocks → Blocks) (b : Blocks) → SameFile h h' → IsSequential h' → IsSomeAnd now (λ c. Becomes h' c (after (records_in h b))) → Has h h' now after b
has h h' None after b file form becomes = absurd becomes
has h h' (Some c) after b file form becomes = record {
  map_is = ap (λ rs. Some (map_of_list rs)) becomes.are;
  valid = becomes.valid;
  used = used_is h' c form.one becomes.valid ∙ ap (buckets_for (capacity h')) (ap slot_sizes becomes.are) ∙ ap (λ cap. buckets_for cap (slot_sizes (after (records_in h b)))) (ap capacity file.is);
}

-- What stood there may be set back.

take_last : (rs : List (List ℕ)) (m : ℕ) → length rs ≡ suc m → take m rs ++ get_or rs m [] ∷ [] ≡ rs
take_last [] m is = absurd (omega arith)
take_last (x ∷ []) zero is = refl
take_last (x ∷ y ∷ rs) zero is = absurd (omega arith)
take_last (x ∷ rs) (suc m) is = ap (λ t. x ∷ t) (take_last rs m (omega arith))

-- the last record, once it went
back_behind : (h h' : FileHead) (n : ℕ) (b c : Blocks) → 1 ≤ n → IsSequential h → SameFile h h' → IsSequential h' → TakesAt h n None b → Becomes h' c (list_set n None (records_in h b)) → Takes h' c (Number n) (record_at (records_in h b) n)
back_behind h h' n b c one form file form' given becomes =
    let rs = records_in h b in
    let m = n - 1 in
    let r = get_or rs m [] in
    let number : n ≡ suc m = omega arith in
    let size : length rs ≡ suc m = let count = given.0.count in let last = given.1 in omega (arith, count, last) in
    let at : record_at rs n ≡ Some r = ap (record_at rs) number ∙ slice_get-get_or rs m [] (omega (arith, size)) in
    let left : records_in h' c ≡ take m rs = becomes.are ∙ list_set_none n rs (omega (arith, size)) in
    let fewer = length-take-le m rs (omega (arith, size)) in
    let next : n ≡ h'.count + 1 = let count = becomes.valid.count in omega (arith, count, ap length left, fewer) in
    let whole : records_in h' c ++ r ∷ [] ≡ rs = ap (λ xs. xs ++ r ∷ []) left ∙ take_last rs m size in
    let used : h'.used + asks h' c (length r) ≡ h.used = asked_is_placed h' c r form'.one becomes.valid ∙ ap (λ xs. buckets_for (capacity h') (slot_sizes xs)) whole
    ∙ ap (λ cap. buckets_for cap (slot_sizes rs)) (ap capacity file.is) ∙ sym (used_is h b form.one given.0) in
    let alloc : h'.alloc ≡ h.alloc = ap (λ (x : FileHead). x.alloc) file.is in
    let fits : h'.used + asks h' c (length r) ≤ h'.alloc = let most = form.used in omega (arith, used, alloc, most) in
    subst (λ (o : Option (List ℕ)). Takes h' c (Number n) o) (sym at) (inl (next, fits))

-- none, once a record was put behind the others
back_none : (h h' : FileHead) (n : ℕ) (r : List ℕ) (b c : Blocks) → IsLaidOut h b → n ≡ h.count + 1 → Becomes h' c (list_set n (Some r) (records_in h b)) → Takes h' c (Number n) (record_at (records_in h b) n)
back_none h h' n r b c valid next becomes =
    let rs = records_in h b in
    let count = valid.count in
    let now = becomes.valid.count in
    let at : record_at rs n ≡ None = record_at_past rs n (omega (arith, count, next)) in
    let more = ap length (becomes.are ∙ list_set_next n r rs (omega (arith, count, next))) in
    let last : n ≡ h'.count = omega (arith, now, more, length-append rs (r ∷ []), count, next) in
    subst (λ (o : Option (List ℕ)). Takes h' c (Number n) o) (sym at) last

-- a record of the same length
back_same : (h h' : FileHead) (n : ℕ) (r : List ℕ) (b c : Blocks) → 1 ≤ n → IsSomeAnd (record_at (records_in h b) n) (λ old. length r ≡ length old) → Becomes h' c (list_set n (Some r) (records_in h b)) → Takes h' c (Number n) (record_at (records_in h b) n)
back_same h h' n r b c one stands becomes = go (record_at rs n) stands
  where
    rs : List (List ℕ)
    rs = records_in h b

    within : n ≤ length rs
    within = ⊎_elim (λ less. omega arith) (λ past. absurd (none_stands (record_at rs n) r (record_at_past rs n (omega arith)) stands)) (cases_lt n (length rs + 1))

    at : record_at (records_in h' c) n ≡ Some r
    at = ap (λ xs. record_at xs n) (becomes.are ∙ list_set_stands n r rs one within) ∙ (record_at_set rs n n r one within).0 refl

    go : (o : Option (List ℕ)) → IsSomeAnd o (λ old. length r ≡ length old) → Takes h' c (Number n) o
    go None same = absurd same
    go (Some old) same = inr (subst (λ (x : Option (List ℕ)). IsSomeAnd x (λ now. length old ≡ length now)) (sym at) (sym same))

back_again : (h h' : FileHead) (n : ℕ) (v : Option (List ℕ)) (b c : Blocks) → 1 ≤ n → IsSequential h → SameFile h h' → IsSequential h' → TakesAt h n v b → Becomes h' c (list_set n v (records_in h b)) → Takes h' c (Number n) (record_at (records_in h b) n)
back_again h h' n None b c one form file form' given becomes = back_behind h h' n b c one form file form' given becomes
back_again h h' n (Some r) b c one form file form' given becomes =
    ⊎_elim (λ next. back_none h h' n r b c given.0 next.0 becomes) (λ stands. back_same h h' n r b c one stands becomes) given.1

back_told : (h h' : FileHead) (n : ℕ) (v : Option (List ℕ)) (b : Blocks) (now : Option Blocks) → 1 ≤ n → IsSequential h → SameFile h h' → IsSequential h' → TakesAt h n v b → IsSomeAnd now (λ c. Becomes h' c (list_set n v (records_in h b)))
    → IfSome now (λ c. Takes h' c (Number n) (record_at (records_in h b) n))
back_told h h' n v b None one form file form' given becomes = tt
back_told h h' n v b (Some c) one form file form' given becomes = back_again h h' n v b c one form file form' given becomes

-- a position was set
pub record IsSet (h h' : FileHead) (key : Key) (v : Option (List ℕ)) (told now : Option Blocks) : Type 0 where
  pub map_is : IfSome told (λ b. IsLaidOut h b → Takes h b key v → option_map (map_of h') now ≡ Some (set_key key v (map_of h b)))
  pub valid : IfSome told (λ b. IsLaidOut h b → Takes h b key v → IfSome now (IsLaidOut h'))
  pub used : IfSome told (λ b. IsLaidOut h b → Takes h b key v → h'.used ≡ used_after h b key v)
  pub back : IfSome told (λ b. IsLaidOut h b → Takes h b key v → IfSome now (λ c. Takes h' c key (map_of h b key)))

set_number : (h h' : FileHead) (n : ℕ) (v : Option (List ℕ)) (told now : Option Blocks) → 1 ≤ n → IsSequential h → SameFile h h' → IsSequential h' → IfSome told (λ b. TakesAt h n v b → IsSomeAnd now (λ c. Becomes h' c (list_set n v (records_in h b)))) → IsSet h h' (Number n) v told now
set_number h h' n v None now one was file form becomes = record { map_is = tt; valid = tt; used = tt; back = tt }
set_number h h' n v (Some b) now one was file form becomes = record {
  map_is = λ valid takes. (has h h' now (list_set n v) b file form (becomes (valid, takes))).map_is ∙ ap Some (map_set n v (records_in h b) (may_set h n v b one (valid, takes)));
  valid = λ valid takes. (has h h' now (list_set n v) b file form (becomes (valid, takes))).valid;
  used = λ valid takes. (has h h' now (list_set n v) b file form (becomes (valid, takes))).used;
  back = λ valid takes. back_told h h' n v b now one was file form (valid, takes) (becomes (valid, takes));
}

pub set_done : (h h' : FileHead) (key : Key) (n : ℕ) (v : Option (List ℕ)) (s s' : StoreState) → key ≡ Number n → 1 ≤ n → IsSequential h → Changes h h' (TakesAt h n v) (list_set n v) s s' → IsSet h h' key v s.current s'.current
set_done h h' key n v s s' is one was changes = subst (λ (k : Key). IsSet h h' k v s.current s'.current) (sym is) (set_number h h' n v s.current s'.current one was changes.file changes.form changes.becomes)

-- the positions from one on were taken away
pub record IsCut (h h' : FileHead) (n : ℕ) (told now : Option Blocks) : Type 0 where
  pub map_is : IfSome told (λ b. IsLaidOut h b → option_map (map_of h') now ≡ Some (cut_from n (map_of h b)))
  pub valid : IfSome told (λ b. IsLaidOut h b → IfSome now (IsLaidOut h'))
  pub used : IfSome told (λ b. IsLaidOut h b → UsedBefore (capacity h) n (map_of h b) h'.used)

cut_told : (h h' : FileHead) (n : ℕ) (told now : Option Blocks) → 1 ≤ n → SameFile h h' → IsSequential h' → IfSome told (λ b. IsLaidOut h b → IsSomeAnd now (λ c. Becomes h' c (take (n - 1) (records_in h b)))) → IsCut h h' n told now
cut_told h h' n None now one file form becomes = record { map_is = tt; valid = tt; used = tt }
cut_told h h' n (Some b) now one file form becomes = record {
  map_is = λ valid. (has h h' now (take (n - 1)) b file form (becomes valid)).map_is ∙ ap Some (map_cut n (records_in h b) one);
  valid = λ valid. (has h h' now (take (n - 1)) b file form (becomes valid)).valid;
  used = λ valid records is. (has h h' now (take (n - 1)) b file form (becomes valid)).used ∙ ap (λ (rs : List (List ℕ)). buckets_for (capacity h) (slot_sizes (take (n - 1) rs))) (one_list (records_in h b) records is);
}

pub cut_done : (h h' : FileHead) (n : ℕ) (s s' : StoreState) → 1 ≤ n → Changes h h' (IsLaidOut h) (take (n - 1)) s s' → IsCut h h' n s.current s'.current
cut_done h h' n s s' one changes = cut_told h h' n s.current s'.current one changes.file changes.form changes.becomes

-- one bucket is no more than what a change may stage
pub stages_two : (h : FileHead) (old new : StoreState) → StagesIn h h.bucket old new → StagesIn h ((2 * h.levels + 2) * h.bucket) old new
stages_two h old new stages =
    let few : 1 * h.bucket ≤ (2 * h.levels + 2) * h.bucket = mul-le 1 h.bucket (2 * h.levels + 2) h.bucket (omega arith) (omega arith) in
    stages_more h h.bucket ((2 * h.levels + 2) * h.bucket) old new (omega arith) stages

-- the next position
pub next_found : (told : Option Blocks) (h : FileHead) (from : ℕ) (after : Option Key) (bytes : List ℕ) → StartsAt from after → IfSome told (λ b. IsLaidOut h b → record_at (records_in h b) (from + 1) ≡ Some bytes)
    → IfSome told (λ b. IsLaidOut h b → IsNext (map_of h b) after (Number (from + 1)) bytes)
next_found None h from after bytes starts at = tt
next_found (Some b) h from after bytes starts at = λ valid. record {
  has = at valid;
  behind = after_number from (from + 1) after starts (omega arith);
  least = λ other is before. at_key other is before;
}
  where
    at_key : (other : Key) → is_after after other ≡ true → key_before other (Number (from + 1)) ≡ true → map_of h b other ≡ None
    at_key (Number zero) is before = refl
    at_key (Number (suc m)) is before = let least = number_after from (suc m) after starts is (omega arith) in let most = below_number (suc m) (from + 1) before in absurd (omega arith)
    at_key (Text t) is before = refl
    at_key End is before = refl

-- no number is behind the last position
less_none : (h : FileHead) (b : Blocks) (from : ℕ) (after : Option Key) (other : Key) → StartsAt from after → is_after after other ≡ true → ((m : ℕ) → 1 ≤ m → from < m → record_at (records_in h b) m ≡ None) → map_of h b other ≡ None
less_none h b from after (Number zero) starts is none = refl
less_none h b from after (Number (suc m)) starts is none = none (suc m) (omega arith) (number_after from (suc m) after starts is (omega arith))
less_none h b from after (Text t) starts is none = refl
less_none h b from after End starts is none = refl

pub next_past : (told : Option Blocks) (h : FileHead) (from : ℕ) (after : Option Key) → StartsAt from after → h.count ≤ from → IfSome told (λ b. IsLaidOut h b → EndsAfter (map_of h b) after)
next_past None h from after starts past = tt
next_past (Some b) h from after starts past = λ valid other is.
    less_none h b from after other starts is (λ m one behind. record_at_past (records_in h b) m (let size = valid.count in omega arith))

pub next_nowhere : (told : Option Blocks) (h : FileHead) (after : Option Key) → StartsNowhere after → IfSome told (λ b. IsLaidOut h b → EndsAfter (map_of h b) after)
next_nowhere None h after starts = tt
next_nowhere (Some b) h after starts = λ valid other is. at_key after starts other is
  where
    at_key : (a : Option Key) → StartsNowhere a → (other : Key) → is_after a other ≡ true → map_of h b other ≡ None
    at_key None starts (Number m) is = absurd starts
    at_key (Some (Number k)) starts (Number m) is = absurd starts
    at_key (Some (Text t)) starts (Number m) is = cc
    at_key (Some End) starts (Number m) is = cc
    at_key a starts (Text t) is = refl
    at_key a starts End is = refl

pub next_never : (told : Option Blocks) (h : FileHead) (after : Option Key) → IfSome told (λ b. IsLaidOut h b → ⊥) → IfSome told (λ b. IsLaidOut h b → EndsAfter (map_of h b) after)
next_never None h after never = tt
next_never (Some b) h after never = λ valid. absurd (never valid)

-- what a key has
pub key_found : (told : Option Blocks) (h : FileHead) (key : Key) (n : ℕ) (bytes : List ℕ) → key ≡ Number n → IfSome told (λ b. IsLaidOut h b → record_at (records_in h b) n ≡ Some bytes) → IfSome told (λ b. IsLaidOut h b → map_of h b key ≡ Some bytes)
key_found None h key n bytes is at = tt
key_found (Some b) h key n bytes is at = λ valid. ap (map_of h b) is ∙ at valid

pub key_never : (told : Option Blocks) (h : FileHead) (key : Key) → IfSome told (λ b. IsLaidOut h b → ⊥) → IfSome told (λ b. IsLaidOut h b → map_of h b key ≡ None)
key_never None h key never = tt
key_never (Some b) h key never = λ valid. absurd (never valid)

pub key_absent : (told : Option Blocks) (h : FileHead) (key : Key) (n : ℕ) → key ≡ Number n → ((n ≡ 0) ⊎ (h.count < n)) → IfSome told (λ b. IsLaidOut h b → map_of h b key ≡ None)
key_absent None h key n is outside = tt
key_absent (Some b) h key n is outside = λ valid.
    ap (map_of h b) is ∙ ⊎_elim (λ e. ap (λ m. record_at (records_in h b) m) e) (λ past. record_at_past (records_in h b) n (let size = valid.count in omega arith)) outside

-- an empty file
pub empty_made : (told : Option Blocks) (h : FileHead) → IfSome told (λ b. Becomes h b []) → IfSome told (λ b. map_of h b ≡ empty_map)
empty_made None h made = tt
empty_made (Some b) h made = λ i key. at_key key i
  where
    at_key : (key : Key) → map_of h b key ≡ empty_map key
    at_key (Number zero) = refl
    at_key (Number (suc m)) = ap (λ rs. record_at rs (suc m)) made.are
    at_key (Text t) = refl
    at_key End = refl

pub empty_valid : (told : Option Blocks) (h : FileHead) → IfSome told (λ b. Becomes h b []) → IfSome told (IsLaidOut h)
empty_valid None h made = tt
empty_valid (Some b) h made = made.valid
