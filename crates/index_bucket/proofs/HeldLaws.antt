-- Index buckets that took entries.
use Rattle.std.proofs.Common.{◌≡◌, ◌≤◌, ◌*◌, ◌/◌, ◌&&◌, ℕ, zero, suc, Bool, true, false, List, [], ◌∷◌, length, map, take, drop, refl, sym, ap, ◌∙◌, subst, length-drop, arith}
use Rattle.std.proofs.lemmas.List.{length-take-le, take-map, drop-map}
use Rattle.file_base.specs.declared.head.FileHead.{FileHead}
use Rattle.bucket_page.specs.Pages.{key_in, ascend, precedes_all, may_follow, no_next, next_of, IsBucket, Packs}
use Rattle.index_model.specs.records_model.Slots.{bytes_before}
use Rattle.index_model.specs.Indexes.{Entry, AllAbove, Ascends, AllBelow, with_added}
use Rattle.index_model.specs.Trees.{child_of}
use Rattle.index_model.proofs.HandLemmas.{length_added}
use Rattle.index_bucket.specs.Entries.{index_kind, sizes_of, entry_of, entries_at, IsIndexBucket}
use Rattle.index_bucket.specs.Takes.{Takes, whole, halved, TakesIn}
use Rattle.index_bucket.specs.Laws.{HoldEntries, TakenAreHeld}
use Rattle.index_bucket.proofs.EntryLaws.{length_entries}
use Rattle.index_bucket.proofs.HandLaws.{fan_out_wide}

-- Parts of entries.

above_take : (k : List ℕ) (j : ℕ) (es : List Entry) → AllAbove k es → AllAbove k (take j es)
above_take k zero es all = tt
above_take k (suc j) [] all = tt
above_take k (suc j) (e ∷ es) all = (all.0, above_take k j es all.1)

ascends_take : (j : ℕ) (es : List Entry) → Ascends es → Ascends (take j es)
ascends_take zero es up = tt
ascends_take (suc j) [] up = tt
ascends_take (suc j) (e ∷ es) up = (above_take e.separator j es up.0, ascends_take j es up.1)

ascends_drop : (j : ℕ) (es : List Entry) → Ascends es → Ascends (drop j es)
ascends_drop zero es up = up
ascends_drop (suc j) [] up = tt
ascends_drop (suc j) (e ∷ es) up = ascends_drop j es up.1

below_take : (bound j : ℕ) (es : List Entry) → AllBelow bound (map child_of es) → AllBelow bound (map child_of (take j es))
below_take bound zero es all = tt
below_take bound (suc j) [] all = tt
below_take bound (suc j) (e ∷ es) all = (all.0, below_take bound j es all.1)

below_drop : (bound j : ℕ) (es : List Entry) → AllBelow bound (map child_of es) → AllBelow bound (map child_of (drop j es))
below_drop bound zero es all = all
below_drop bound (suc j) [] all = tt
below_drop bound (suc j) (e ∷ es) all = below_drop bound j es all.1

-- Entries that ascend are slots in order.

and_both : (a b : Bool) → a ≡ true → b ≡ true → (a && b) ≡ true
and_both true b first second = second
and_both false b first second = cc

in_front : (h : FileHead) (s : List ℕ) (raws : List (List ℕ)) → AllAbove (key_in (index_kind h) s) (map (entry_of h) raws) → precedes_all (index_kind h) s raws ≡ true
in_front h s [] all = refl
in_front h s (r ∷ rs) all = and_both (bytes_before (key_in (index_kind h) s) (key_in (index_kind h) r)) (precedes_all (index_kind h) s rs) all.0 (in_front h s rs all.1)

in_order : (h : FileHead) (raws : List (List ℕ)) → Ascends (map (entry_of h) raws) → ascend (index_kind h) raws ≡ true
in_order h [] up = refl
in_order h (r ∷ rs) up = and_both (precedes_all (index_kind h) r rs) (ascend (index_kind h) rs) (in_front h r rs up.0) (in_order h rs up.1)

-- packed bytes with entries that ascend are laid out
pub packed_laid : (h : FileHead) (raws : List (List ℕ)) (next : ℕ) (bytes : List ℕ) (es : List Entry) → Packs (index_kind h) (512 * h.bucket) raws next bytes → map (entry_of h) raws ≡ es → Ascends es → may_follow (index_kind h) next ≡ true
    → IsBucket (index_kind h) (512 * h.bucket) bytes
packed_laid h raws next bytes es packs are up follows = record {
  packed = packs.packed;
  order = ap (ascend (index_kind h)) packs.slots_are ∙ in_order h raws (subst Ascends (sym are) up);
  number = refl;
  next = ap (may_follow (index_kind h)) packs.next_is ∙ follows;
}

-- a bucket that took entries is laid out, and so is the new one beside it, which has the upper half
pub taken_laid : (h : FileHead) (k : List ℕ) (added : List Entry) (old : List ℕ) (parted : Bool) (low high : List ℕ) → IsBucket (index_kind h) (512 * h.bucket) old → TakesIn h (512 * h.bucket) k added old parted low high
    → Ascends (with_added k added (entries_at h old))
    → IsBucket (index_kind h) (512 * h.bucket) low × (parted ≡ true → IsBucket (index_kind h) (512 * h.bucket) high × (entries_at h high ≡ drop (length (with_added k added (entries_at h old)) / 2) (with_added k added (entries_at h old))))
taken_laid h k added old parted low high laid takes up = by parted takes.takes
  where
    all : List Entry
    all = with_added k added (entries_at h old)

    half : length takes.raws / 2 ≡ length all / 2
    half = ap (λ m. m / 2) (sym (length_entries h takes.raws) ∙ ap (λ (x : List Entry). length x) takes.entries)

    by : (p : Bool) → Takes (index_kind h) (512 * h.bucket) (sizes_of h).fan_out (next_of old) takes.raws p low high
        → IsBucket (index_kind h) (512 * h.bucket) low × (p ≡ true → IsBucket (index_kind h) (512 * h.bucket) high × (entries_at h high ≡ drop (length all / 2) all))
    by p (whole one few packs) = (packed_laid h takes.raws (next_of old) low all packs takes.entries up laid.next, λ two. let none : ⊥ = cc in absurd none)
    by p (halved two many lower upper) =
        let first : map (entry_of h) (take (length takes.raws / 2) takes.raws) ≡ take (length all / 2) all = sym (take-map (entry_of h) (length takes.raws / 2) takes.raws) ∙ (λ i. take (half i) (takes.entries i)) in
        let last : map (entry_of h) (drop (length takes.raws / 2) takes.raws) ≡ drop (length all / 2) all = sym (drop-map (entry_of h) (length takes.raws / 2) takes.raws) ∙ (λ i. drop (half i) (takes.entries i)) in (
          packed_laid h (take (length takes.raws / 2) takes.raws) (next_of old) low (take (length all / 2) all) lower first (ascends_take (length all / 2) all up) laid.next,
          λ same. (
            packed_laid h (drop (length takes.raws / 2) takes.raws) no_next high (drop (length all / 2) all) upper last (ascends_drop (length all / 2) all up) refl,
            ap (map (entry_of h)) upper.slots_are ∙ last,
          ),
        )

-- packed bytes with entries that ascend and lead to used buckets
holds : (h : FileHead) (raws : List (List ℕ)) (next : ℕ) (bytes : List ℕ) (es : List Entry) → Packs (index_kind h) (512 * h.bucket) raws next bytes → map (entry_of h) raws ≡ es → Ascends es → may_follow (index_kind h) next ≡ true
    → 1 ≤ length es → AllBelow h.used (map child_of es) → IsIndexBucket h bytes × (entries_at h bytes ≡ es)
holds h raws next bytes es packs are up follows some used =
    let same : entries_at h bytes ≡ es = ap (map (entry_of h)) packs.slots_are ∙ are in (
      record {
        bucket = packed_laid h raws next bytes es packs are up follows;
        some = subst (λ (x : List Entry). 1 ≤ length x) (sym same) some;
        used = subst (λ (x : List Entry). AllBelow h.used (map child_of x)) (sym same) used;
      },
      same,
    )

module _ (h : FileHead) (all : List Entry) (raws : List (List ℕ)) (next : ℕ) (are : map (entry_of h) raws ≡ all) (wide : 3 ≤ (sizes_of h).fan_out) (up : Ascends all) (used : AllBelow h.used (map child_of all)) (some : 1 ≤ length all) (follows : may_follow (index_kind h) next ≡ true) where
  count : length raws ≡ length all
  count = sym (length_entries h raws) ∙ ap (λ (x : List Entry). length x) are

  held : (parted : Bool) (low high : List ℕ) → Takes (index_kind h) (512 * h.bucket) (sizes_of h).fan_out next raws parted low high → HoldEntries h all parted low high
  held parted low high (whole one few packs) =
      let is = holds h raws next low all packs are up follows some used in
      record { lower = is.0; upper = λ two. let none : ⊥ = cc in absurd none; whole = λ same. is.1; halved = λ two. let none : ⊥ = cc in absurd none }
  held parted low high (halved two many lower upper) =
      let n = count in
      let half : length raws / 2 ≡ length all / 2 = ap (λ m. m / 2) n in
      let first : map (entry_of h) (take (length raws / 2) raws) ≡ take (length all / 2) all = sym (take-map (entry_of h) (length raws / 2) raws) ∙ (λ i. take (half i) (are i)) in
      let last : map (entry_of h) (drop (length raws / 2) raws) ≡ drop (length all / 2) all = sym (drop-map (entry_of h) (length raws / 2) raws) ∙ (λ i. drop (half i) (are i)) in
      let taken = length-take-le (length all / 2) all (omega arith) in
      let left = length-drop (length all / 2) all in
      let a = holds h (take (length raws / 2) raws) next low (take (length all / 2) all) lower first (ascends_take (length all / 2) all up) follows (omega (arith, taken, many, wide, n)) (below_take h.used (length all / 2) all used) in
      let b = holds h (drop (length raws / 2) raws) no_next high (drop (length all / 2) all) upper last (ascends_drop (length all / 2) all up) refl (omega (arith, left, many, wide, n)) (below_drop h.used (length all / 2) all used) in
      record { lower = a.0; upper = λ same. b.0; whole = λ one. let none : ⊥ = cc in absurd none; halved = λ same. (a.1, b.1) }

pub taken_are_held : TakenAreHeld
taken_are_held h k added old parted low high one short bucket some takes up used =
    held h (with_added k added (entries_at h old)) takes.raws (next_of old) takes.entries (fan_out_wide h.bucket h.key_size one short) up used (let n = length_added k added (entries_at h old) some in omega (arith, n, some)) bucket.next parted low high takes.takes
