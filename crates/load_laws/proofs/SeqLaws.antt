-- A sequential file of records in order.
use Rattle.std.proofs.Common.{◌≡◌, ◌<◌, ◌≤◌, ◌+◌, ◌-◌, ◌*◌, ℕ, zero, suc, Bool, true, false, cond, ◌&&◌, List, [], ◌∷◌, ◌++◌, length, map, take, drop, get_or, Option, Some, None, refl, sym, ap, subst, ◌∙◌, arith, length-append}
use Rattle.std.specs.List.{All, slice_get}
use Rattle.std.specs.FinMap.Entries.{find}
use Rattle.std.proofs.lemmas.List.{take_all, length-map}
use Rattle.record_files.specs.file_base.declared.head.FileHead.{FileHead}
use Rattle.vms_model.specs.Keys.{Key, Number, Text, End}
use Rattle.records_model.specs.Records.{key_cmp}
use Rattle.bucket_page.specs.declared.kind.PageKind.TheVariants.{Seq}
use Rattle.bucket_page.specs.Pages.{slots_of, next_of, joined, ascend, precedes_all, may_follow, no_next, u16_bytes, IsPacked, IsBucket, Packs}
use Rattle.record_files.specs.change_set.Maps.{same_key}
use Rattle.record_files.proofs.change_set.NumberKeys.{same_test, other_test}
use Rattle.record_files.specs.index_blocks.Buckets as blocks
use Rattle.record_files.specs.seq_file.Layout.{bucket_at, slots_at, record_of, records_in, capacity, IsRecord, IsLaidOut}
use Rattle.record_files.specs.seq_file.Layout as seq
use Rattle.record_files.specs.seq_file.Placing.{buckets_for, slots_along, BeginsAnew}
use Rattle.record_files.specs.seq_file.Records.{record_at, map_of_list, slot_sizes}
use Rattle.load_laws.specs.Records.{Keyed, what_has, values_of}
use Rattle.load_laws.specs.Loads.{AreNumbered}
use Rattle.load_laws.specs.Pages.{Stand}
use Rattle.load_laws.specs.Chains.{raw_for, packed, chain_pages}
use Rattle.load_laws.proofs.ChainLemmas.{all_in, packed_all, all_begin, packed_counts, packed_some}
use Rattle.load_laws.proofs.StandLemmas.{part_at, along_parts, begin_at}

-- What each key has.

numbered_lower : (n k : ℕ) (es : List Keyed) → n < k → AreNumbered k es → find key_cmp (Number n) es ≡ None
numbered_lower n k [] less all = refl
numbered_lower n k (e ∷ es) less all =
    ap (λ (x : Key). cond (same_key (Number n) x) (Some e.1) (find key_cmp (Number n) es)) all.0
    ∙ ap (λ t. cond t (Some e.1) (find key_cmp (Number n) es)) (other_test n k (λ same. omega (arith, less, same)))
    ∙ numbered_lower n (suc k) es (omega (arith, less)) all.1

numbered_at : (k i : ℕ) (es : List Keyed) → AreNumbered k es → find key_cmp (Number (k + i)) es ≡ slice_get (values_of es) i
numbered_at k i [] all = refl
numbered_at k zero (e ∷ es) all =
    ap (λ (x : Key). cond (same_key (Number (k + 0)) x) (Some e.1) (find key_cmp (Number (k + 0)) es)) all.0
    ∙ ap (λ t. cond t (Some e.1) (find key_cmp (Number (k + 0)) es)) (same_test (k + 0) k (omega arith))
numbered_at k (suc i) (e ∷ es) all =
    ap (λ (x : Key). cond (same_key (Number (k + suc i)) x) (Some e.1) (find key_cmp (Number (k + suc i)) es)) all.0
    ∙ ap (λ t. cond t (Some e.1) (find key_cmp (Number (k + suc i)) es)) (other_test (k + suc i) k (λ same. omega (arith, same)))
    ∙ ap (λ n. find key_cmp (Number n) es) (let same : k + suc i ≡ suc k + i = omega arith in same)
    ∙ numbered_at (suc k) i es all.1

text_none : (t : List ℕ) (k : ℕ) (es : List Keyed) → AreNumbered k es → find key_cmp (Text t) es ≡ None
text_none t k [] all = refl
text_none t k (e ∷ es) all = ap (λ (x : Key). cond (same_key (Text t) x) (Some e.1) (find key_cmp (Text t) es)) all.0 ∙ text_none t (suc k) es all.1

end_none : (k : ℕ) (es : List Keyed) → AreNumbered k es → find key_cmp End es ≡ None
end_none k [] all = refl
end_none k (e ∷ es) all = ap (λ (x : Key). cond (same_key End x) (Some e.1) (find key_cmp End es)) all.0 ∙ end_none (suc k) es all.1

pub list_is : (es : List Keyed) → AreNumbered 1 es → map_of_list (values_of es) ≡ what_has es
list_is es all = λ i key. at_key key i
  where
    at_key : (key : Key) → map_of_list (values_of es) key ≡ what_has es key
    at_key (Number zero) = sym (numbered_lower 0 1 es (omega arith) all)
    at_key (Number (suc n)) = sym (ap (λ m. find key_cmp (Number m) es) (let same : suc n ≡ 1 + n = omega arith in same) ∙ numbered_at 1 n es all)
    at_key (Text t) = sym (text_none t 1 es all)
    at_key End = sym (end_none 1 es all)

-- The layout.

raw_sizes : (values : List (List ℕ)) → map (λ (s : List ℕ). length s) (map (raw_for Seq) values) ≡ slot_sizes values
raw_sizes [] = refl
raw_sizes (v ∷ vs) = λ i. (let same : length (raw_for Seq v) ≡ length v + 2 = omega arith in same i) ∷ raw_sizes vs i

raw_records : (values : List (List ℕ)) → map record_of (map (raw_for Seq) values) ≡ values
raw_records [] = refl
raw_records (v ∷ vs) = ap (λ x. v ∷ x) (raw_records vs)

pub seq_count : (cap : ℕ) (values : List (List ℕ)) → buckets_for cap (slot_sizes values) ≡ length (packed cap [] (map (raw_for Seq) values))
seq_count cap values = ap (buckets_for cap) (sym (raw_sizes values)) ∙ packed_counts cap (map (raw_for Seq) values)

seq_ascends : (slots : List (List ℕ)) → ascend Seq slots ≡ true
seq_ascends [] = refl
seq_ascends (s ∷ ss) = front ss (seq_ascends ss)
  where
    all_precede : (ts : List (List ℕ)) → precedes_all Seq s ts ≡ true
    all_precede [] = refl
    all_precede (t ∷ ts) = all_precede ts

    front : (ts : List (List ℕ)) → ascend Seq ts ≡ true → (precedes_all Seq s ts && ascend Seq ts) ≡ true
    front ts later = λ i. all_precede ts i && later i

next_seq : (h : FileHead) (b : List (List ℕ)) (n : ℕ) (parts : List (List (List ℕ))) → Stand h b n (chain_pages Seq n parts) → (i : ℕ) → i < length parts → next_of (blocks.bucket_at h b (n + i)) ≡ no_next
next_seq h b n [] stand i below = absurd (omega (arith, below))
next_seq h b n (p ∷ ps) stand zero below = ap (λ m. next_of (blocks.bucket_at h b m)) (let same : n + 0 ≡ n = omega arith in same) ∙ stand.0.next_is
next_seq h b n (p ∷ ps) stand (suc i) below = ap (λ m. next_of (blocks.bucket_at h b m)) (let same : n + suc i ≡ suc n + i = omega arith in same) ∙ next_seq h b (suc n) ps stand.1 i (omega (arith, below))

pub record SeqLoaded (h : FileHead) (b : List (List ℕ)) (values : List (List ℕ)) : Type 0 where
  pub laid : IsLaidOut h b
  pub records_are : records_in h b ≡ values

-- parts that stand in buckets are a file of their records
pub seq_loaded : (h : FileHead) (b : List (List ℕ)) (values : List (List ℕ)) → All (IsRecord h.mrs) values → h.used ≡ length (packed (capacity h) [] (map (raw_for Seq) values)) → h.count ≡ length values
    → Stand h b 0 (chain_pages Seq 0 (packed (capacity h) [] (map (raw_for Seq) values))) → SeqLoaded h b values
seq_loaded h b values all used count stand = record {
  laid = record {
    buckets = λ i below. let part = part_at h b Seq 0 parts stand i (omega (arith, below, used)) in record {
      packed = subst (λ m. IsPacked Seq (512 * h.bucket) (bucket_at h b m)) (at i) part.packed;
      order = seq_ascends (slots_at h b i);
      number = refl;
      next = ap (λ x. may_follow Seq x) (ap (λ m. next_of (bucket_at h b m)) (sym (at i)) ∙ next_seq h b 0 parts stand i (omega (arith, below, used)));
    };
    filled = λ i below. subst (λ (x : List (List ℕ)). BeginsAnew (capacity h) x (slots_at h b (suc i))) (sym (slots i (omega (arith, below, used))))
        (subst (λ (x : List (List ℕ)). BeginsAnew (capacity h) (get_or parts i []) x) (sym (slots (suc i) (omega (arith, below, used)))) (begin_at (capacity h) parts (all_begin (capacity h) [] raws) i (omega (arith, below, used))));
    records = subst (λ (rs : List (List ℕ)). All (IsRecord h.mrs) rs) (sym are) all;
    count = ap (λ (rs : List (List ℕ)). length rs) are ∙ sym count;
  };
  records_are = are;
}
  where
    raws : List (List ℕ)
    raws = map (raw_for Seq) values

    parts : List (List (List ℕ))
    parts = packed (capacity h) [] raws

    at : (i : ℕ) → 0 + i ≡ i
    at i = omega arith

    slots : (i : ℕ) → i < length parts → slots_at h b i ≡ get_or parts i []
    slots i below = ap (λ m. slots_of Seq (bucket_at h b m)) (sym (at i)) ∙ (part_at h b Seq 0 parts stand i below).slots_are

    along : slots_along (slots_at h b) h.used ≡ raws
    along = ap (slots_along (slots_at h b)) used ∙ along_parts (slots_at h b) parts (length parts) (omega arith) slots ∙ ap all_in (take_all (length parts) parts (omega arith)) ∙ packed_all (capacity h) [] raws

    are : records_in h b ≡ values
    are = ap (map record_of) along ∙ raw_records values
