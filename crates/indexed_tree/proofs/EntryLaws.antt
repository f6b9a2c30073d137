-- The key of a leaf's first slot.
use Rattle.std.proofs.Common.{◌≡◌, ◌≤◌, ℕ, List, [], ◌∷◌, length, map, refl, arith}
use Rattle.file_base.specs.declared.head.FileHead.{FileHead}
use Rattle.bucket_page.specs.Pages.{slot_at, key_in}
use Rattle.indexed_file.specs.tree_model.Setting.{first_key}
use Rattle.indexed_file.specs.Chain.{kind_of, slot_of}

pub key_first : (h : FileHead) (raws : List (List ℕ)) → 1 ≤ length raws → key_in (kind_of h) (slot_at raws 0) ≡ first_key (map (slot_of h) raws)
key_first h [] some = absurd (omega (arith, some))
key_first h (r ∷ rs) some = refl
