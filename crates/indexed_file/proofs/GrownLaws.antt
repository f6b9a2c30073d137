-- The blocks of a bucket that was written, with those that it was parted in.
use Rattle.std.proofs.Common.{◌≡◌, ◌⊎◌, ℕ, ◌<◌, ◌≤◌, ◌+◌, ◌-◌, ◌*◌, ◌&&◌, true, List, [], ◌∷◌, length, map, refl}
use Rattle.file_base.specs.declared.head.FileHead.{FileHead}
use Rattle.bucket_page.specs.Pages.{no_next, ascend, precedes_all, all_suit}
use Rattle.change_set.specs.records_model.Slots.{IsOrdered, AllBehind}
use Rattle.indexed_file.specs.Chain.{kind_of, slot_of, all_keep}

-- slots in order are bytes in order
precedes_behind : (h : FileHead) (s : List ℕ) (ss : List (List ℕ)) → AllBehind (slot_of h s).key (map (slot_of h) ss) → precedes_all (kind_of h) s ss ≡ true
precedes_behind h s [] all = refl
precedes_behind h s (t ∷ ts) all = λ i. all.0 i && precedes_behind h s ts all.1 i

pub ascend_ordered : (h : FileHead) (raws : List (List ℕ)) → IsOrdered (map (slot_of h) raws) → ascend (kind_of h) raws ≡ true
ascend_ordered h [] ordered = refl
ascend_ordered h (s ∷ ss) ordered = λ i. precedes_behind h s ss ordered.0 i && ascend_ordered h ss ordered.1 i

-- what the file has to be for that
pub record Room (h : FileHead) (b : List (List ℕ)) (n added end : ℕ) (raws : List (List ℕ)) : Type 0 where
  pub here : n < h.used
  pub free : h.used + added ≤ h.alloc
  pub within : h.start - 518 + h.alloc * h.bucket ≤ length b
  pub order : ascend (kind_of h) raws ≡ true
  pub suit : all_suit (kind_of h) raws ≡ true
  pub kept : all_keep h raws ≡ true
  pub leads : (end < h.used) ⊎ (end ≡ no_next)
