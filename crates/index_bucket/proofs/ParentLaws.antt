-- The bytes of an entry that is made.
use Rattle.std.proofs.Common.{◌≡◌, ◌≤◌, ◌<◌, ◌+◌, ◌-◌, ◌*◌, ◌^◌, ◌++◌, ℕ, suc, List, [], ◌∷◌, length, take, drop, map, replicate, refl, sym, ap, ◌∙◌, subst, arith, rules, append-nil, Bool, true, false, zero, ◌&&◌, ◌/◌}
use Rattle.std.proofs.lemmas.List.{same_lists, places}
use Rattle.std.proofs.Math.Seq.{take-append_seam, drop-append_seam}
use Rattle.byteorder.specs.Endian.{little_bytes, little_number}
use Rattle.byteorder.specs.Numbers.{little_number-reads_back}
use Rattle.file_base.specs.declared.head.FileHead.{FileHead}
use Rattle.file_base.specs.Bytes.{spliced}
use Rattle.bucket_page.specs.declared.kind.PageKind.{PageKind}
use Rattle.bucket_page.specs.Pages.{u32_at, suits, slots_of, next_of, joined, inserted, IsBucket, Packs}
use Rattle.index_model.specs.Indexes.{Entry, Ascends, with_added}
use Rattle.index_bucket.specs.Entries.{index_kind, entry_of, entries_at, sizes_of}
use Rattle.index_bucket.specs.Takes.{Takes, whole, halved, TakesIn, entries_of}
use Rattle.index_bucket.specs.Laws.{HasEntries}
use Rattle.index_bucket.specs.declared.hand.Handed.{Handed}
use Rattle.index_bucket.specs.declared.hand.Handed.TheVariants.{One, Two}
use Rattle.index_bucket.proofs.EntryLaws.{child_read, entry_size, length_entries}
use Rattle.index_bucket.proofs.HandLaws.{fan_out_wide}
use Rattle.index_bucket.proofs.HeldLaws.{taken_laid}

-- two pieces, one behind the other
pub pieces : (z s n : List ℕ) → length s + length n ≤ length z → take (length s + length n) (spliced (spliced z 0 s) (length s) n) ≡ s ++ n
pieces z s n fits = same_lists _ _ (search (rules, places)) (λ k d h. grind (arith, places))

-- an entry of a separator and a number
pub entry_is : (h : FileHead) (s n : List ℕ) (child : ℕ) → length s ≡ h.key_size → n ≡ little_bytes 4 child → child < 2 ^ 32 → entry_of h (s ++ n) ≡ record { separator = s; child = child }
entry_is h s n child long is fits =
    let key : take h.key_size (s ++ n) ≡ s = ap (λ k. take k (s ++ n)) (sym long) ∙ take-append_seam s n in
    let rest : drop h.key_size (s ++ n) ≡ n = ap (λ k. drop k (s ++ n)) (sym long) ∙ drop-append_seam s n in
    let number : u32_at (s ++ n) h.key_size ≡ child = sym (child_read (s ++ n) h.key_size) ∙ ap (little_number 4) (rest ∙ is ∙ sym (append-nil (little_bytes 4 child))) ∙ little_number-reads_back 4 child [] fits in
    λ i. record { separator = key i; child = number i }

-- the bytes of an entry are of one length
pub suits_long : (h : FileHead) (s : List ℕ) → suits (index_kind h) s ≡ true → length s ≡ h.key_size + 4
suits_long h s suit = entry_size h (s ∷ []) 0 (alone (suits (index_kind h) s) suit) (omega arith)
  where
    alone : (b : Bool) → b ≡ true → (b && true) ≡ true
    alone true is = refl
    alone false is = is

-- a slot that was put alone into a bucket
lead_slot : (h : FileHead) (size : ℕ) (slot : List ℕ) (root : ℕ) (before after : List ℕ) (put : Bool) → 1 ≤ h.bucket → h.key_size ≤ 64 → size ≡ 512 * h.bucket → slots_of (index_kind h) before ≡ [] → suits (index_kind h) slot ≡ true
    → (put ≡ true → Packs (index_kind h) size (inserted (slots_of (index_kind h) before) 0 slot) (next_of before) after) → (put ≡ false → size < 16 + length (joined (slots_of (index_kind h) before)) + length slot)
    → entries_at h after ≡ entry_of h slot ∷ []
lead_slot h size slot root before after put one short sized none suit fitted full = ap (map (entry_of h)) ((fitted done).slots_are ∙ ap (λ ss. inserted ss 0 slot) none)
  where
    over : size < 16 + length (joined (slots_of (index_kind h) before)) + length slot → ⊥
    over big = let long = suits_long h slot suit in let nothing = ap (λ ss. length (joined ss)) none in omega (arith, big, long, nothing, sized, one, short)

    either : (b : Bool) → (b ≡ false → ⊥) → b ≡ true
    either true never = refl
    either false never = absurd (never refl)

    done : put ≡ true
    done = either put (λ is. over (full is))

-- the same, where the kind was told by calls
pub lead_of : (h : FileHead) (K K' : PageKind) (size : ℕ) (slot : List ℕ) (root : ℕ) (before after : List ℕ) (put : Bool) → 1 ≤ h.bucket → h.key_size ≤ 64 → size ≡ 512 * h.bucket → K ≡ index_kind h → K' ≡ index_kind h
    → slots_of K before ≡ [] → suits (index_kind h) slot ≡ true → (put ≡ true → Packs K' size (inserted (slots_of K' before) 0 slot) (next_of before) after)
    → (put ≡ false → size < 16 + length (joined (slots_of K' before)) + length slot) → entries_at h after ≡ entry_of h slot ∷ []
lead_of h K K' size slot root before after put one short sized is is' none suit fitted full =
    lead_slot h size slot root before after put one short sized (subst (λ (k : PageKind). slots_of k before ≡ []) is none) suit
    (subst (λ (k : PageKind). put ≡ true → Packs k size (inserted (slots_of k before) 0 slot) (next_of before) after) is' fitted)
    (subst (λ (k : PageKind). put ≡ false → size < 16 + length (joined (slots_of k before)) + length slot) is' full)

few_handed : (h : FileHead) (handed : Handed) → length (entries_of h handed) ≤ 2
few_handed h (One first) = omega arith
few_handed h (Two first second) = omega arith

-- a bucket with one entry that took others has all of them
pub root_taken : (h : FileHead) (k : List ℕ) (r : Entry) (handed : Handed) (old : List ℕ) (parted : Bool) (low high : List ℕ) → 1 ≤ h.bucket → h.key_size ≤ 64 → IsBucket (index_kind h) (512 * h.bucket) old → entries_at h old ≡ r ∷ []
    → TakesIn h (512 * h.bucket) k (entries_of h handed) old parted low high → HasEntries h (r ∷ entries_of h handed) low
root_taken h k r handed old parted low high one short laid alone takes = record {
  are = whole_is parted takes.takes;
  bucket = λ up. (taken_laid h k (entries_of h handed) old parted low high laid takes (subst Ascends (sym all_is) up)).0;
}
  where
    all_is : with_added k (entries_of h handed) (entries_at h old) ≡ r ∷ entries_of h handed
    all_is = ap (with_added k (entries_of h handed)) alone ∙ ap (λ l. r ∷ l) (append-nil (entries_of h handed))

    raws_are : map (entry_of h) takes.raws ≡ r ∷ entries_of h handed
    raws_are = takes.entries ∙ all_is

    whole_is : (p : Bool) → Takes (index_kind h) (512 * h.bucket) (sizes_of h).fan_out (next_of old) takes.raws p low high → entries_at h low ≡ r ∷ entries_of h handed
    whole_is p (whole same few packs) = ap (map (entry_of h)) packs.slots_are ∙ raws_are
    whole_is p (halved two many lower upper) =
        let count = sym (length_entries h takes.raws) ∙ ap (λ (x : List Entry). length x) raws_are in
        let few = few_handed h handed in
        let wide = fan_out_wide h.bucket h.key_size one short in absurd (omega (arith, count, few, wide, many))
