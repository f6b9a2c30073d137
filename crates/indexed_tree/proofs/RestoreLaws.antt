-- A key that was set back in the leaf that was read for it.
use Rattle.std.proofs.Common.{◌≡◌, ◌<◌, ◌*◌, ℕ, Bool, true, false, List, take, Option, Some, None, IfSome, IsSomeAnd, sym, subst}
use Rattle.block_disk.specs.Disk.{DiskState}
use Rattle.file_base.specs.declared.head.FileHead.{FileHead}
use Rattle.bucket_page.specs.Pages.{slots_of, IsBucket}
use Rattle.indexed_file.specs.change_set.Files.{IsPlaced}
use Rattle.index_blocks.specs.Buckets.{bucket_at}
use Rattle.index_blocks.specs.Levels.{leaf_for, HasRoot}
use Rattle.indexed_file.specs.Backs.{TriesLeaf, TriesBytes}
use Rattle.indexed_file.specs.Chain.{kind_of, all_keep, HasKeys, IsLeaf, SuitsText}
use Rattle.indexed_file.proofs.ImplLaws.{value_some}
use Rattle.indexed_tree.specs.Backs.{HasSetBack}
use Rattle.indexed_tree.specs.Puts.{PutsBack, BackRead}
use Rattle.indexed_tree.specs.Rooted.{IsRooted}
use Rattle.indexed_tree.proofs.BackLaws.{back_leaves}
use Rattle.indexed_tree.proofs.MapLaws.{suits_fits}
use Rattle.indexed_tree.proofs.RootLaws.{rooted_finds}

abbrev Told : Type 0
Told = Option (List (List ℕ))

-- the leaf that was read into a frame has the key set back, or has no room for that
leaf_tried : (h : FileHead) (b : List (List ℕ)) (k : List ℕ) (v : Option (List ℕ)) (n : ℕ) (done : Bool) (frame bytes : List ℕ) → h.root < h.used → IsRooted h b → n ≡ leaf_for h b k → take (512 * h.bucket) frame ≡ bucket_at h b n
    → TriesBytes h k v (512 * h.bucket) done frame bytes → TriesLeaf h k v (512 * h.bucket) done (bucket_at h b n) (take (512 * h.bucket) bytes)
leaf_tried h b k v n done frame bytes root is at read tries =
    let leaf = subst (λ m. IsLeaf h (bucket_at h b m)) (sym at) (rooted_finds h b k root is).leaf in
    subst (λ (x : List ℕ). TriesLeaf h k v (512 * h.bucket) done x (take (512 * h.bucket) bytes)) read
    (tries (subst (λ (x : List ℕ). IsBucket (kind_of h) (512 * h.bucket) x) (sym read) leaf.bucket) (subst (λ (x : List ℕ). all_keep h (slots_of (kind_of h) x) ≡ true) (sym read) leaf.kept))

pub back_taken : (told now : Told) (h : FileHead) (disk : DiskState) (k : List ℕ) (v : Option (List ℕ)) (n : ℕ) (frame bytes : List ℕ) → HasRoot h → HasKeys h → IsPlaced h disk → SuitsText h k v → TriesBytes h k v (512 * h.bucket) true frame bytes
    → IfSome told (λ old. IsSomeAnd now (PutsBack h n bytes old)) → IfSome told (λ old. BackRead h k v n frame old now)
back_taken None now h disk k v n frame bytes form keys placed suits tries puts = tt
back_taken (Some b) now h disk k v n frame bytes form keys placed suits tries puts = λ is at read room. go now is at read puts
  where
    go : (o : Told) → IsRooted h b → n ≡ leaf_for h b k → take (512 * h.bucket) frame ≡ bucket_at h b n → IsSomeAnd o (PutsBack h n bytes b) → IsSomeAnd o (HasSetBack h k v b)
    go None is at read puts = puts
    go (Some c) is at read puts = puts k v suits.size (suits_fits h disk k v placed suits) (value_some h k v keys.key suits) is at (leaf_tried h b k v n true frame bytes form.root is at read tries)

pub back_left : (told now : Told) (h : FileHead) (k : List ℕ) (v : Option (List ℕ)) (n : ℕ) (frame bytes : List ℕ) → HasRoot h → HasKeys h → SuitsText h k v → TriesBytes h k v (512 * h.bucket) false frame bytes → now ≡ told
    → IfSome told (λ old. BackRead h k v n frame old now)
back_left None now h k v n frame bytes form keys suits tries same = tt
back_left (Some b) now h k v n frame bytes form keys suits tries same = λ is at read room.
    subst (λ (o : Told). IsSomeAnd o (HasSetBack h k v b)) (sym same) (back_leaves h b k v n bytes form.root (value_some h k v keys.key suits) is at room (leaf_tried h b k v n false frame bytes form.root is at read tries))
