-- Records as slots of an indexed file.
use Rattle.std.proofs.Common.{◌≡◌, ◌<◌, ◌≤◌, ◌+◌, ◌-◌, ◌*◌, ◌%◌, ◌/◌, ◌==◌, ◌&&◌, ◌||◌, ℕ, zero, suc, Bool, true, false, cond, List, [], ◌∷◌, ◌++◌, length, map, take, drop, Option, Some, None, if◌then◌else◌, nat_le, refl, sym, ap, subst, ◌∙◌, arith, length-append, length-drop, append-nil}
use Rattle.std.specs.Ordering.{is_lt, eq_by_cmp}
use Rattle.std.specs.FinMap.Entries.{find, is_sorted}
use Rattle.std.specs.FinMap.Entries.{below_all}
use Rattle.std.proofs.lemmas.List.{take_all, length-take}
use Rattle.std.proofs.lemmas.Bool.Decides.{nat_tests}
use Rattle.record_files.specs.file_base.declared.head.FileHead.{FileHead}
use Rattle.record_files.specs.file_base.Bytes.{piece_at}
use Rattle.vms_model.specs.Keys.{Key, Number, Text, End}
use Rattle.bucket_page.specs.Pages.{u16_at, key_in, joined, suits, front_size, tells_well}
use Rattle.bucket_page.proofs.PageLaws.{joined-append}
use Rattle.records_model.specs.Records.{key_cmp}
use Rattle.records_model.specs.Slots.{Slot, AllBehind, IsOrdered, lookup, value_in, slot_at, same_bytes}
use Rattle.records_model.specs.Parts.{bytes_of}
use Rattle.record_files.specs.tree_model.Loads.{slot_for, filled}
use Rattle.record_files.specs.tree_model.Laws.{AllLoad}
use Rattle.record_files.specs.indexed_file.Chain.{kind_of, slot_of, value_of, keeps_record, all_keep, Suits, SuitsText}
use Rattle.load_laws.specs.Records.{Keyed, what_has, bytes_in, texts_of, values_of}
use Rattle.load_laws.specs.Chains.{raw_for, packed}
use Rattle.load_laws.specs.Loads.{AllSuitBy}
use Rattle.record_files.specs.file_base.declared.head.Organization.TheVariants.{Indexed}

-- each record is one of the file, under its key
abbrev pub AllTexts : FileHead → List Keyed → Type 0
AllTexts h es = AllSuitBy Indexed h es

pub record IsText (h : FileHead) (k : Key) (v : List ℕ) : Type 0 where
  pub key : k ≡ Text (bytes_in k)
  pub size : length (bytes_in k) ≡ h.key_size
  pub has : piece_at v h.key_pos h.key_size ≡ bytes_in k
  pub most : length v ≤ h.mrs

pub is_text : (h : FileHead) (k : Key) (v : List ℕ) → Suits h k (Some v) → IsText h k v
is_text h (Text t) v suits = record { key = refl; size = suits.size; has = suits.has; most = suits.most }
is_text h (Number n) v suits = absurd suits
is_text h End v suits = absurd suits

-- What a slot's bytes mean.

number_back : (n : ℕ) → n % 256 + 256 * (n / 256) ≡ n
number_back n = omega arith

in_range : (n mrs : ℕ) → 1 ≤ n → n ≤ mrs → (nat_le 1 n && nat_le n mrs) ≡ true
in_range n mrs one most = grind (arith, nat_tests)

if_so : {A : Type 0} (t : Bool) (x y : A) → t ≡ true → (if t then x else y) ≡ x
if_so true x y is = refl
if_so false x y is = cc

key_long : (v : List ℕ) (pos size : ℕ) → 1 ≤ size → length (piece_at v pos size) ≡ size → pos + size ≤ length v
key_long v pos size one long = let cut = length-take size (drop pos v) in let rest = length-drop pos v in omega (arith, cut, rest, one, long)

pub text_long : (h : FileHead) (k : Key) (v : List ℕ) → 1 ≤ h.key_size → IsText h k v → h.key_pos + h.key_size ≤ length v
text_long h k v one is = key_long v h.key_pos h.key_size one (ap (λ (x : List ℕ). length x) is.has ∙ is.size)

pub slot_is : (h : FileHead) (k : Key) (v : List ℕ) → 1 ≤ h.key_size → IsText h k v → slot_of h (raw_for (kind_of h) v) ≡ slot_for (bytes_in k, v)
slot_is h k v one is =
    let long = text_long h k v one is in
    let len : length v % 256 + 256 * (length v / 256) ≡ length v = number_back (length v) in
    let raw = raw_for (kind_of h) v in
    let key : key_in (kind_of h) raw ≡ bytes_in k = ap (λ n. take h.key_size (drop n raw)) (let four : 4 + h.key_pos ≡ suc (suc (suc (suc h.key_pos))) = omega arith in four) ∙ is.has in
    let value : value_of h.mrs raw ≡ Some v =
    if_so (nat_le 1 (u16_at raw 2) && nat_le (u16_at raw 2) h.mrs) (Some (piece_at raw 4 (u16_at raw 2))) None (in_range (u16_at raw 2) h.mrs (omega (arith, len, long, one)) (let most = is.most in omega (arith, len, most)))
    ∙ ap (λ n. Some (take n v)) len ∙ ap Some (take_all (length v) v (omega arith)) in
    λ i. record { key = key i; room = len i; value = value i }

pub slots_are : (h : FileHead) (es : List Keyed) → 1 ≤ h.key_size → AllTexts h es → map (slot_of h) (map (raw_for (kind_of h)) (values_of es)) ≡ map slot_for (texts_of es)
slots_are h [] one all = refl
slots_are h (e ∷ es) one all = λ i. slot_is h e.0 e.1 one (is_text h e.0 e.1 all.0) i ∷ slots_are h es one all.1 i

pub length_raw : (h : FileHead) (v : List ℕ) → length (raw_for (kind_of h) v) ≡ 4 + length v
length_raw h v = omega arith

keeps_test : (n low high : ℕ) → low ≤ n → n ≤ high → ((n == 0) || (nat_le low n && nat_le n high)) ≡ true
keeps_test n low high from to = grind (arith, nat_tests)

pub raws_keep : (h : FileHead) (es : List Keyed) → 1 ≤ h.key_size → AllTexts h es → all_keep h (map (raw_for (kind_of h)) (values_of es)) ≡ true
raws_keep h [] one all = refl
raws_keep h (e ∷ es) one all =
    let is = is_text h e.0 e.1 all.0 in
    let long = text_long h e.0 e.1 one is in
    let most = is.most in
    let len = number_back (length e.1) in
    let here : keeps_record h (raw_for (kind_of h) e.1) ≡ true = keeps_test (u16_at (raw_for (kind_of h) e.1) 2) (h.key_pos + h.key_size) h.mrs (omega (arith, len, long)) (omega (arith, len, most)) in
    λ i. here i && raws_keep h es one all.1 i

-- The slots of parts.

-- a slot is as long as its room and the front that tells it
abbrev AllLong : FileHead → List (List ℕ) → Type 0
AllLong h [] = Unit {0}
AllLong h (s ∷ ss) = (length s ≡ 4 + u16_at s 0) × AllLong h ss

pub raws_long : (h : FileHead) (vs : List (List ℕ)) → AllLong h (map (raw_for (kind_of h)) vs)
raws_long h [] = tt
raws_long h (v ∷ vs) = ((let len = number_back (length v) in let same : length (raw_for (kind_of h) v) ≡ 4 + length v = length_raw h v in omega (arith, len, same)), raws_long h vs)

long_both : (h : FileHead) (a b : List (List ℕ)) → AllLong h a → AllLong h b → AllLong h (a ++ b)
long_both h [] b first second = second
long_both h (s ∷ ss) b first second = (first.0, long_both h ss b first.1 second)

bytes_same : (h : FileHead) (ss : List (List ℕ)) → AllLong h ss → bytes_of (map (slot_of h) ss) ≡ length (joined ss)
bytes_same h [] long = refl
bytes_same h (s ∷ ss) long = let rest = bytes_same h ss long.1 in let both = length-append s (joined ss) in let here = long.0 in omega (arith, rest, both, here)

map_both : (h : FileHead) (a b : List (List ℕ)) → map (slot_of h) (a ++ b) ≡ map (slot_of h) a ++ map (slot_of h) b
map_both h [] b = refl
map_both h (s ∷ ss) b = ap (λ x. slot_of h s ∷ x) (map_both h ss b)

-- slots are filled into leaves as their bytes are into buckets
pub filled_same : (h : FileHead) (cap : ℕ) (now ss : List (List ℕ)) → AllLong h now → AllLong h ss → filled cap (map (slot_of h) now) (map (slot_of h) ss) ≡ map (map (slot_of h)) (packed cap now ss)
filled_same h cap now [] first second = refl
filled_same h cap now (s ∷ ss) first second =
    let longer = long_both h now (s ∷ []) first (second.0, tt) in
    let both : map (slot_of h) now ++ slot_of h s ∷ [] ≡ map (slot_of h) (now ++ s ∷ []) = sym (map_both h now (s ∷ [])) in
    let test : nat_le (bytes_of (map (slot_of h) now ++ slot_of h s ∷ [])) cap ≡ nat_le (length (joined (now ++ s ∷ []))) cap = ap (λ n. nat_le n cap) (ap bytes_of both ∙ bytes_same h (now ++ s ∷ []) longer) in
    go (nat_le (bytes_of (map (slot_of h) now ++ slot_of h s ∷ [])) cap) (nat_le (length (joined (now ++ s ∷ []))) cap) test
    (ap (λ x. filled cap x (map (slot_of h) ss)) both ∙ filled_same h cap (now ++ s ∷ []) ss longer second.1) (filled_same h cap (s ∷ []) ss (second.0, tt) second.1)
  where
    go : (t u : Bool) → t ≡ u → filled cap (map (slot_of h) now ++ slot_of h s ∷ []) (map (slot_of h) ss) ≡ map (map (slot_of h)) (packed cap (now ++ s ∷ []) ss)
        → filled cap (slot_of h s ∷ []) (map (slot_of h) ss) ≡ map (map (slot_of h)) (packed cap (s ∷ []) ss)
        → (if t then filled cap (map (slot_of h) now ++ slot_of h s ∷ []) (map (slot_of h) ss) else map (slot_of h) now ∷ filled cap (slot_of h s ∷ []) (map (slot_of h) ss))
        ≡ map (map (slot_of h)) (if u then packed cap (now ++ s ∷ []) ss else now ∷ packed cap (s ∷ []) ss)
    go true true same here next = here
    go false false same here next = ap (λ x. map (slot_of h) now ∷ x) next
    go true false same here next = cc
    go false true same here next = cc

-- The order of keys.

both_true : (a b : Bool) → (a && b) ≡ true → (a ≡ true) × (b ≡ true)
both_true true b is = (refl, is)
both_true false b is = cc

texts_behind : (h : FileHead) (t : List ℕ) (es : List Keyed) → AllTexts h es → below_all key_cmp (Text t) es ≡ true → AllBehind t (map slot_for (texts_of es))
texts_behind h t [] all is = tt
texts_behind h t (e ∷ es) all is =
    let both = both_true (is_lt (key_cmp (Text t) e.0)) (below_all key_cmp (Text t) es) is in
    (ap (λ (x : Key). is_lt (key_cmp (Text t) x)) (sym (is_text h e.0 e.1 all.0).key) ∙ both.0, texts_behind h t es all.1 both.1)

pub texts_ordered : (h : FileHead) (es : List Keyed) → AllTexts h es → is_sorted key_cmp es ≡ true → IsOrdered (map slot_for (texts_of es))
texts_ordered h [] all is = tt
texts_ordered h (e ∷ es) all is =
    let both = both_true (below_all key_cmp e.0 es) (is_sorted key_cmp es) is in
    (texts_behind h (bytes_in e.0) es all.1 (ap (λ (x : Key). below_all key_cmp x es) (sym (is_text h e.0 e.1 all.0).key) ∙ both.0), texts_ordered h es all.1 both.1)

pub texts_load : (h : FileHead) (es : List Keyed) → AllTexts h es → h.mrs + 32 ≤ 512 * h.bucket → AllLoad (512 * h.bucket - 16) h.key_size (texts_of es)
texts_load h [] all records = tt
texts_load h (e ∷ es) all records = let is = is_text h e.0 e.1 all.0 in let most = is.most in ((is.size, omega (arith, most, records)), texts_load h es all.1 records)

-- What each key has.

pub texts_find : (h : FileHead) (es : List Keyed) (k : List ℕ) → AllTexts h es → lookup (map slot_for (texts_of es)) k ≡ find key_cmp (Text k) es
texts_find h [] k all = refl
texts_find h (e ∷ es) k all =
    go (same_bytes k (bytes_in e.0)) (texts_find h es k all.1)
    ∙ ap (λ (x : Key). cond (eq_by_cmp key_cmp (Text k) x) (Some e.1) (find key_cmp (Text k) es)) (sym (is_text h e.0 e.1 all.0).key)
  where
    go : (t : Bool) → lookup (map slot_for (texts_of es)) k ≡ find key_cmp (Text k) es
        → value_in (if t then Some (slot_for (bytes_in e.0, e.1)) else slot_at k (map slot_for (texts_of es))) ≡ cond t (Some e.1) (find key_cmp (Text k) es)
    go true later = refl
    go false later = later

pub number_none : (h : FileHead) (n : ℕ) (es : List Keyed) → AllTexts h es → find key_cmp (Number n) es ≡ None
number_none h n [] all = refl
number_none h n (e ∷ es) all = ap (λ (x : Key). cond (eq_by_cmp key_cmp (Number n) x) (Some e.1) (find key_cmp (Number n) es)) (is_text h e.0 e.1 all.0).key ∙ number_none h n es all.1

pub end_none : (h : FileHead) (es : List Keyed) → AllTexts h es → find key_cmp End es ≡ None
end_none h [] all = refl
end_none h (e ∷ es) all = ap (λ (x : Key). cond (eq_by_cmp key_cmp End x) (Some e.1) (find key_cmp End es)) (is_text h e.0 e.1 all.0).key ∙ end_none h es all.1
