-- The blocks of a leaf that was written, with the new ones that it was parted in.
use Rattle.std.proofs.Common.{◌≡◌, ◌⊎◌, inl, inr, ℕ, zero, suc, ◌<◌, ◌≤◌, ◌+◌, ◌-◌, ◌*◌, true, false, List, [], ◌∷◌, length, take, drop, map, refl, sym, ap, subst, ◌∙◌, arith}
use Rattle.std.proofs.lemmas.List.{take-map, drop-map, length-map}
use Rattle.file_base.specs.declared.head.FileHead.{FileHead}
use Rattle.bucket_page.specs.Pages.{no_next, slots_of, next_of, ascend, Packs, all_suit, joined}
use Rattle.bucket_page.proofs.Orders.{ascend-take, ascend-drop}
use Rattle.indexed_file.specs.change_set.Buckets.{with_bucket}
use Rattle.indexed_file.proofs.change_set.BucketLaws.{length-with_bucket}
use Rattle.indexed_file.specs.records_model.Slots.{Slot}
use Rattle.indexed_file.specs.records_model.Parts as parts
use Rattle.indexed_file.specs.records_model.Parts.{bytes_of, has_place, IsBest, IsParted}
use Rattle.index_blocks.specs.Buckets.{bucket_first, bucket_at}
use Rattle.index_blocks.specs.Levels.{AllAre}
use Rattle.index_blocks.proofs.WriteLaws.{bucket_same, bucket_other}
use Rattle.indexed_file.specs.Chain.{kind_of, slot_of, all_keep, IsLeaf, slots_in, Leads}
use Rattle.indexed_file.specs.Raws.{Parted, whole, in_two, in_three}
use Rattle.indexed_file.specs.Sets.{with_parts}
use Rattle.indexed_file.proofs.RawLaws.{all_keep-take, all_keep-drop, bytes_of_raws}
use Rattle.indexed_file.proofs.GrownLaws.{Room}

-- so many numbers from one on
abbrev pub numbers_from : ℕ → ℕ → List ℕ
numbers_from n zero = []
numbers_from n (suc more) = n ∷ numbers_from (suc n) more

-- a bucket that was written is a leaf
leaf_of : (h : FileHead) (used : ℕ) (raws : List (List ℕ)) (next : ℕ) (bytes here : List ℕ) → here ≡ bytes → Packs (kind_of h) (512 * h.bucket) raws next bytes → all_keep h raws ≡ true
    → ascend (kind_of h) raws ≡ true → (next < used) ⊎ (next ≡ no_next) → IsLeaf (record h { used = used }) here
leaf_of h used raws next bytes here is packs kept order leads =
    subst (λ (x : List ℕ). IsLeaf (record h { used = used }) x) (sym is) (record {
      bucket = record { packed = packs.packed; order = ap (ascend (kind_of h)) packs.slots_are ∙ order; number = refl; next = refl };
      kept = ap (all_keep h) packs.slots_are ∙ kept;
      leads = subst (λ (n : ℕ). (n < used) ⊎ (n ≡ no_next)) (sym packs.next_is) leads;
    })

-- with its slots
slots_here : (h : FileHead) (raws : List (List ℕ)) (next : ℕ) (bytes here : List ℕ) → here ≡ bytes → Packs (kind_of h) (512 * h.bucket) raws next bytes → map (slot_of h) (slots_of (kind_of h) here) ≡ map (slot_of h) raws
slots_here h raws next bytes here is packs = ap (λ x. map (slot_of h) (slots_of (kind_of h) x)) is ∙ ap (map (slot_of h)) packs.slots_are

next_here : (h : FileHead) (raws : List (List ℕ)) (next : ℕ) (bytes here : List ℕ) → here ≡ bytes → Packs (kind_of h) (512 * h.bucket) raws next bytes → next_of here ≡ next
next_here h raws next bytes here is packs = ap next_of is ∙ packs.next_is

more_used : (used added end : ℕ) → (end < used) ⊎ (end ≡ no_next) → (end < used + added) ⊎ (end ≡ no_next)
more_used used added end (inl below) = inl (omega arith)
more_used used added end (inr none) = inr none

packed_fits : (h : FileHead) (raws : List (List ℕ)) (next : ℕ) (bytes : List ℕ) → 1 ≤ h.bucket → all_suit (kind_of h) raws ≡ true → Packs (kind_of h) (512 * h.bucket) raws next bytes → bytes_of (map (slot_of h) raws) ≤ 512 * h.bucket - 16
packed_fits h raws next bytes one suit packs = omega (arith, bytes_of_raws h raws suit, packs.packed.fits, ap (λ (ss : List (List ℕ)). length (joined ss)) packs.slots_are)

raws_over : (h : FileHead) (raws : List (List ℕ)) → 1 ≤ h.bucket → all_suit (kind_of h) raws ≡ true → 512 * h.bucket < 16 + length (joined raws) → 512 * h.bucket - 16 < bytes_of (map (slot_of h) raws)
raws_over h raws one suit over = omega (arith, bytes_of_raws h raws suit, over)

-- the head once leaves were added
abbrev pub with_used : FileHead → ℕ → FileHead
with_used h used = record h { used = used }

-- Bucket n was written, and as many new ones, which are numbered from `used` on: they have the parts of these slots, each leads to the one behind it, and the
-- last one where the leaf had led; and all others that are used stay.
pub record Written (h : FileHead) (b b' : List (List ℕ)) (n added end i : ℕ) (slots : List Slot) : Type 0 where
  pub others : (m : ℕ) → m < h.used → (n ≡ m → ⊥) → bucket_at h b' m ≡ bucket_at h b m
  pub leads : Leads h b' (n ∷ numbers_from h.used added) end
  pub leaves : AllAre (λ m. IsLeaf (with_used h (h.used + added)) (bucket_at h b' m)) (n ∷ numbers_from h.used added)
  pub parts : IsParted (512 * h.bucket - 16) slots i (map (slots_in h b') (n ∷ numbers_from h.used added))

-- and the new ones have these bytes
pub record HaveBytes (h : FileHead) (b' : List (List ℕ)) (added : ℕ) (mid high : List ℕ) : Type 0 where
  pub few : added ≤ 2
  pub mid_is : 1 ≤ added → bucket_at h b' h.used ≡ take (512 * h.bucket) mid
  pub high_is : 2 ≤ added → bucket_at h b' (suc h.used) ≡ take (512 * h.bucket) high

pub bytes_written : (h : FileHead) (b : List (List ℕ)) (n added : ℕ) (low mid high : List ℕ) → added ≤ 2 → h.used + added ≤ h.alloc → h.start - 518 + h.alloc * h.bucket ≤ length b
    → HaveBytes h (with_parts h n added low mid high b) added mid high
bytes_written h b n zero low mid high few free within = record { few = few; mid_is = λ some. absurd (omega (arith, some)); high_is = λ some. absurd (omega (arith, some)) }
bytes_written h b n (suc zero) low mid high few free within =
    let b1 = with_bucket low b (bucket_first h n) h.bucket in
    let long : length b1 ≡ length b = length-with_bucket low b (bucket_first h n) h.bucket in
    record { few = few; mid_is = λ some. bucket_same h b1 mid h.used (omega (arith, free)) (omega (arith, long, within)); high_is = λ some. absurd (omega (arith, some)) }
bytes_written h b n (suc (suc zero)) low mid high few free within =
    let b1 = with_bucket low b (bucket_first h n) h.bucket in
    let b2 = with_bucket mid b1 (bucket_first h h.used) h.bucket in
    let b3 = with_bucket high b2 (bucket_first h (h.used + 1)) h.bucket in
    let long1 : length b1 ≡ length b = length-with_bucket low b (bucket_first h n) h.bucket in
    let long2 : length b2 ≡ length b = length-with_bucket mid b1 (bucket_first h h.used) h.bucket ∙ long1 in
    let next : h.used + 1 ≡ suc h.used = omega arith in
    record {
      few = few;
      mid_is = λ some. bucket_other h b2 high (h.used + 1) h.used (λ e. omega arith) ∙ bucket_same h b1 mid h.used (omega (arith, free)) (omega (arith, long1, within));
      high_is = λ some. ap (bucket_at h b3) (sym next) ∙ bucket_same h b2 high (h.used + 1) (omega (arith, free)) (omega (arith, long2, within));
    }
bytes_written h b n (suc (suc (suc more))) low mid high few free within = absurd (omega (arith, few))

pub parted_few : (h : FileHead) (size fresh next i added : ℕ) (raws : List (List ℕ)) (low mid high : List ℕ) → Parted h size fresh next raws i added low mid high → added ≤ 2
parted_few h size fresh next i added raws low mid high (whole none packs) = omega (arith, none)
parted_few h size fresh next i added raws low mid high (in_two j one over best first second) = omega (arith, one)
parted_few h size fresh next i added raws low mid high (in_three two over none first second third) = omega (arith, two)

written_whole : (h : FileHead) (b : List (List ℕ)) (n end i : ℕ) (raws : List (List ℕ)) (low mid high : List ℕ) → 1 ≤ h.bucket → Room h b n 0 end raws → Packs (kind_of h) (512 * h.bucket) raws end (take (512 * h.bucket) low)
    → Written h b (with_parts h n 0 low mid high b) n 0 end i (map (slot_of h) raws)
written_whole h b n end i raws low mid high one room packs =
    let is = bucket_same h b low n (omega (arith, room.here, room.free)) room.within in
    record {
      others = λ m below other. bucket_other h b low n m other;
      leads = (next_here h raws end (take (512 * h.bucket) low) _ is packs, tt);
      leaves = (leaf_of h (h.used + 0) raws end (take (512 * h.bucket) low) _ is packs room.kept room.order (more_used h.used 0 end room.leads), tt);
      parts = parts.whole (packed_fits h raws end (take (512 * h.bucket) low) one room.suit packs) (ap (λ x. x ∷ []) (slots_here h raws end (take (512 * h.bucket) low) _ is packs));
    }

written_two : (h : FileHead) (b : List (List ℕ)) (n end i j : ℕ) (raws : List (List ℕ)) (low mid high : List ℕ) → 1 ≤ h.bucket → Room h b n 1 end raws → 512 * h.bucket < 16 + length (joined raws) → IsBest (512 * h.bucket - 16) (map (slot_of h) raws) j
    → Packs (kind_of h) (512 * h.bucket) (take j raws) h.used (take (512 * h.bucket) low) → Packs (kind_of h) (512 * h.bucket) (drop j raws) end (take (512 * h.bucket) mid) → Written h b (with_parts h n 1 low mid high b) n 1 end i (map (slot_of h) raws)
written_two h b n end i j raws low mid high one room over best first second =
    let here = room.here in
    let free = room.free in
    let b1 = with_bucket low b (bucket_first h n) h.bucket in
    let long : length b1 ≡ length b = length-with_bucket low b (bucket_first h n) h.bucket in
    let at_n = bucket_other h b1 mid h.used n (λ e. omega arith) ∙ bucket_same h b low n (omega arith) room.within in
    let at_new = bucket_same h b1 mid h.used (omega arith) (omega (arith, long, room.within)) in
    let slots_n = slots_here h (take j raws) h.used (take (512 * h.bucket) low) _ at_n first in
    let slots_new = slots_here h (drop j raws) end (take (512 * h.bucket) mid) _ at_new second in
    record {
      others = λ m below other. bucket_other h b1 mid h.used m (λ e. omega arith) ∙ bucket_other h b low n m other;
      leads = (next_here h (take j raws) h.used (take (512 * h.bucket) low) _ at_n first, (next_here h (drop j raws) end (take (512 * h.bucket) mid) _ at_new second, tt));
      leaves = (
        leaf_of h (h.used + 1) (take j raws) h.used (take (512 * h.bucket) low) _ at_n first (all_keep-take h j raws room.kept) (ascend-take (kind_of h) j raws room.order) (inl (omega arith)),
        (leaf_of h (h.used + 1) (drop j raws) end (take (512 * h.bucket) mid) _ at_new second (all_keep-drop h j raws room.kept) (ascend-drop (kind_of h) j raws room.order) (more_used h.used 1 end room.leads), tt),
      );
      parts = parts.two j (raws_over h raws one room.suit over) best (λ i. (slots_n ∙ sym (take-map (slot_of h) j raws)) i ∷ (slots_new ∙ sym (drop-map (slot_of h) j raws)) i ∷ []);
    }

written_three : (h : FileHead) (b : List (List ℕ)) (n end p : ℕ) (raws : List (List ℕ)) (low mid high : List ℕ) → 1 ≤ h.bucket → Room h b n 2 end raws → 512 * h.bucket < 16 + length (joined raws) → has_place (512 * h.bucket - 16) (map (slot_of h) raws) (length raws) ≡ false
    → Packs (kind_of h) (512 * h.bucket) (take p raws) h.used (take (512 * h.bucket) low) → Packs (kind_of h) (512 * h.bucket) (take 1 (drop p raws)) (h.used + 1) (take (512 * h.bucket) mid)
    → Packs (kind_of h) (512 * h.bucket) (drop (p + 1) raws) end (take (512 * h.bucket) high) → Written h b (with_parts h n 2 low mid high b) n 2 end p (map (slot_of h) raws)
written_three h b n end p raws low mid high one room over no_place first second third =
    let here = room.here in
    let free = room.free in
    let size = 512 * h.bucket in
    let middle = take 1 (drop p raws) in
    let rest = drop (p + 1) raws in
    let b1 = with_bucket low b (bucket_first h n) h.bucket in
    let b2 = with_bucket mid b1 (bucket_first h h.used) h.bucket in
    let b3 = with_bucket high b2 (bucket_first h (h.used + 1)) h.bucket in
    let long1 : length b1 ≡ length b = length-with_bucket low b (bucket_first h n) h.bucket in
    let long2 : length b2 ≡ length b = length-with_bucket mid b1 (bucket_first h h.used) h.bucket ∙ long1 in
    let next : h.used + 1 ≡ suc h.used = omega arith in
    let at_n = bucket_other h b2 high (h.used + 1) n (λ e. omega arith) ∙ bucket_other h b1 mid h.used n (λ e. omega arith) ∙ bucket_same h b low n (omega arith) room.within in
    let at_mid = bucket_other h b2 high (h.used + 1) h.used (λ e. omega arith) ∙ bucket_same h b1 mid h.used (omega arith) (omega (arith, long1, room.within)) in
    let at_high : bucket_at h b3 (suc h.used) ≡ take size high = ap (bucket_at h b3) (sym next) ∙ bucket_same h b2 high (h.used + 1) (omega arith) (omega (arith, long2, room.within)) in
    let slots_n = slots_here h (take p raws) h.used (take size low) _ at_n first in
    let slots_mid = slots_here h middle (h.used + 1) (take size mid) _ at_mid second in
    let slots_high = slots_here h rest end (take size high) _ at_high third in
    let kept_rest = all_keep-drop h p raws room.kept in
    let order_rest = ascend-drop (kind_of h) p raws room.order in
    record {
      others = λ m below other. bucket_other h b2 high (h.used + 1) m (λ e. omega arith) ∙ bucket_other h b1 mid h.used m (λ e. omega arith) ∙ bucket_other h b low n m other;
      leads = (next_here h (take p raws) h.used (take size low) _ at_n first, (next_here h middle (h.used + 1) (take size mid) _ at_mid second ∙ next, (next_here h rest end (take size high) _ at_high third, tt)));
      leaves = (
        leaf_of h (h.used + 2) (take p raws) h.used (take size low) _ at_n first (all_keep-take h p raws room.kept) (ascend-take (kind_of h) p raws room.order) (inl (omega arith)),
        (
          leaf_of h (h.used + 2) middle (h.used + 1) (take size mid) _ at_mid second (all_keep-take h 1 (drop p raws) kept_rest) (ascend-take (kind_of h) 1 (drop p raws) order_rest) (inl (omega arith)),
          (leaf_of h (h.used + 2) rest end (take size high) _ at_high third (all_keep-drop h (p + 1) raws room.kept) (ascend-drop (kind_of h) (p + 1) raws room.order) (more_used h.used 2 end room.leads), tt),
        ),
      );
      parts = parts.three (raws_over h raws one room.suit over) (ap (has_place (512 * h.bucket - 16) (map (slot_of h) raws)) (length-map raws (slot_of h)) ∙ no_place)
          (λ i. (slots_n ∙ sym (take-map (slot_of h) p raws)) i
          ∷ (slots_mid ∙ sym (take-map (slot_of h) 1 (drop p raws)) ∙ ap (take 1) (sym (drop-map (slot_of h) p raws))) i
          ∷ (slots_high ∙ sym (drop-map (slot_of h) (p + 1) raws)) i ∷ []);
    }

-- a leaf that was parted, or was not
pub parts_written : (h : FileHead) (b : List (List ℕ)) (n added end i : ℕ) (raws : List (List ℕ)) (low mid high : List ℕ) → 1 ≤ h.bucket → Room h b n added end raws
    → Parted h (512 * h.bucket) h.used end raws i added (take (512 * h.bucket) low) (take (512 * h.bucket) mid) (take (512 * h.bucket) high) → Written h b (with_parts h n added low mid high b) n added end i (map (slot_of h) raws)
parts_written h b n added end i raws low mid high least room (whole none packs) =
    let P : ℕ → Type 0 = λ a. Written h b (with_parts h n a low mid high b) n a end i (map (slot_of h) raws) in
    subst P (sym none) (written_whole h b n end i raws low mid high least (subst (λ (a : ℕ). Room h b n a end raws) none room) packs)
parts_written h b n added end i raws low mid high least room (in_two j one over best first second) =
    let P : ℕ → Type 0 = λ a. Written h b (with_parts h n a low mid high b) n a end i (map (slot_of h) raws) in
    subst P (sym one) (written_two h b n end i j raws low mid high least (subst (λ (a : ℕ). Room h b n a end raws) one room) over best first second)
parts_written h b n added end i raws low mid high least room (in_three two over no_place first second third) =
    let P : ℕ → Type 0 = λ a. Written h b (with_parts h n a low mid high b) n a end i (map (slot_of h) raws) in
    subst P (sym two) (written_three h b n end i raws low mid high least (subst (λ (a : ℕ). Room h b n a end raws) two room) over no_place first second third)
