-- Index buckets that are filled with entries.
use Rattle.std.proofs.Common.{◌≡◌, ◌<◌, ◌≤◌, ◌+◌, ◌-◌, ◌*◌, ◌/◌, ℕ, zero, suc, Bool, true, false, List, [], ◌∷◌, ◌++◌, length, map, take, get_or, refl, sym, ap, ◌∙◌, arith, length-append}
use Rattle.std.proofs.lemmas.List.{take_more, length-map, length-take-le}
use Rattle.std.proofs.lemmas.Nat.{mul-le}
use Rattle.std.proofs.Math.Nat.{div-mul-le_self}
use Rattle.file_base.specs.declared.head.FileHead.{FileHead}
use Rattle.bucket_page.specs.Pages.{slots_of, next_of, no_next, joined, suits, all_suit, inserted, IsPacked, Packs}
use Rattle.bucket_page.proofs.PageLaws.{both_true}
use Rattle.index_bucket.specs.index_model.Indexes.{Entry}
use Rattle.load_model.specs.Nodes.{entries_by}
use Rattle.load_model.proofs.Groups.{length_entries_by}
use Rattle.index_bucket.specs.Entries.{index_kind, entry_of, entries_at}
use Rattle.index_bucket.proofs.ParentLaws.{suits_long}
use Rattle.load_laws.specs.Keys.{AllKeys}
use Rattle.load_pages.proofs.FillLemmas.{inserted_last}

-- a bucket with the entries of the first of these keys
pub record NodeTo (h : FileHead) (first : ℕ) (keys : List (List ℕ)) (i : ℕ) (bytes : List ℕ) : Type 0 where
  pub packed : IsPacked (index_kind h) (512 * h.bucket) bytes
  pub are : entries_at h bytes ≡ entries_by first (take i keys)
  pub none : next_of bytes ≡ no_next

pub node_start : (h : FileHead) (first : ℕ) (keys : List (List ℕ)) (bytes : List ℕ) → Packs (index_kind h) (512 * h.bucket) [] no_next bytes → NodeTo h first keys 0 bytes
node_start h first keys bytes packs = record { packed = packs.packed; are = ap (map (entry_of h)) packs.slots_are; none = packs.next_is }

joined_long : (h : FileHead) (slots : List (List ℕ)) → all_suit (index_kind h) slots ≡ true → length (joined slots) ≡ length slots * (h.key_size + 4)
joined_long h [] all = omega arith
joined_long h (s ∷ ss) all =
    let both = both_true (suits (index_kind h) s) (all_suit (index_kind h) ss) all in
    let here = suits_long h s both.0 in
    let rest = joined_long h ss both.1 in
    let long = length-append s (joined ss) in
    let grown : suc (length ss) * (h.key_size + 4) ≡ (h.key_size + 4) + length ss * (h.key_size + 4) = omega arith in omega (arith, here, rest, long, grown)

-- as many slots as keys
pub node_count : (h : FileHead) (first : ℕ) (keys : List (List ℕ)) (i : ℕ) (bytes : List ℕ) → i ≤ length keys → NodeTo h first keys i bytes → length (slots_of (index_kind h) bytes) ≡ i
node_count h first keys i bytes few to =
    sym (length-map (slots_of (index_kind h) bytes) (entry_of h)) ∙ ap (λ (es : List Entry). length es) to.are ∙ length_entries_by first (take i keys) ∙ length-take-le i keys few

pub node_bytes : (h : FileHead) (first : ℕ) (keys : List (List ℕ)) (i : ℕ) (bytes : List ℕ) → i ≤ length keys → NodeTo h first keys i bytes → length (joined (slots_of (index_kind h) bytes)) ≡ i * (h.key_size + 4)
node_bytes h first keys i bytes few to = joined_long h (slots_of (index_kind h) bytes) to.packed.suit ∙ ap (λ n. n * (h.key_size + 4)) (node_count h first keys i bytes few to)

entries_last : (n : ℕ) (ks : List (List ℕ)) (k : List ℕ) → entries_by n (ks ++ k ∷ []) ≡ entries_by n ks ++ record { separator = k; child = n + length ks } ∷ []
entries_last n [] k = λ i. record { separator = k; child = (let same : n ≡ n + 0 = omega arith in same) i } ∷ []
entries_last n (x ∷ xs) k =
    ap (λ (es : List Entry). record { separator = x; child = n } ∷ es) (entries_last (suc n) xs k)
    ∙ ap (λ m. record { separator = x; child = n } ∷ (entries_by (suc n) xs ++ record { separator = k; child = m } ∷ [])) (let same : suc n + length xs ≡ n + suc (length xs) = omega arith in same)

-- one entry more
pub node_more : (h : FileHead) (first : ℕ) (keys : List (List ℕ)) (i : ℕ) (old new slot : List ℕ) → i < length keys → entry_of h slot ≡ record { separator = get_or keys i []; child = first + i } → NodeTo h first keys i old
    → Packs (index_kind h) (512 * h.bucket) (inserted (slots_of (index_kind h) old) i slot) (next_of old) new → NodeTo h first keys (i + 1) new
node_more h first keys i old new slot below is before packs =
    let count = node_count h first keys i old (omega (arith, below)) before in
    let long : length (take i keys) ≡ i = length-take-le i keys (omega (arith, below)) in
    record {
      packed = packs.packed;
      are = ap (map (entry_of h)) (packs.slots_are ∙ inserted_last (slots_of (index_kind h) old) i slot (sym count))
          ∙ mapped (slots_of (index_kind h) old) slot
          ∙ (λ j. before.are j ++ (is ∙ ap (λ m. record { separator = get_or keys i []; child = first + m }) (sym long)) j ∷ [])
          ∙ sym (entries_last first (take i keys) (get_or keys i [])) ∙ ap (entries_by first) (sym (take_more keys i [] below));
      none = packs.next_is ∙ before.none;
    }
  where
    mapped : (ss : List (List ℕ)) (s : List ℕ) → map (entry_of h) (ss ++ s ∷ []) ≡ map (entry_of h) ss ++ entry_of h s ∷ []
    mapped [] s = refl
    mapped (x ∷ xs) s = ap (λ (es : List Entry). entry_of h x ∷ es) (mapped xs s)

pub key_at : (size : ℕ) (keys : List (List ℕ)) (i : ℕ) (d : List ℕ) → i < length keys → AllKeys size keys → length (get_or keys i d) ≡ size
key_at size [] i d below all = absurd (omega (arith, below))
key_at size (k ∷ ks) zero d below all = all.0
key_at size (k ∷ ks) (suc i) d below all = key_at size ks i d (omega (arith, below)) all.1

pub same_key : (keys : List (List ℕ)) (i : ℕ) (d : List ℕ) → i < length keys → get_or keys i d ≡ get_or keys i []
same_key [] i d below = absurd (omega (arith, below))
same_key (k ∷ ks) zero d below = refl
same_key (k ∷ ks) (suc i) d below = same_key ks i d (omega (arith, below))

-- an entry more fits
pub entry_fits : (h : FileHead) (i count : ℕ) → i < count → count ≤ (512 * h.bucket - 16) / (h.key_size + 4) → 1 ≤ h.bucket → 16 + i * (h.key_size + 4) + (h.key_size + 4) ≤ 512 * h.bucket
entry_fits h i count below few one =
    let all = div-mul-le_self (512 * h.bucket - 16) (h.key_size + 4) in
    let product = mul-le (i + 1) (h.key_size + 4) ((512 * h.bucket - 16) / (h.key_size + 4)) (h.key_size + 4) (omega (arith, below, few)) (omega arith) in
    let grown : (i + 1) * (h.key_size + 4) ≡ i * (h.key_size + 4) + (h.key_size + 4) = omega arith in omega (arith, all, product, grown, one)

pub put_so : (t : Bool) → (t ≡ false → ⊥) → t ≡ true
put_so true never = refl
put_so false never = absurd (never refl)
