-- What is read of a leaf.
use Rattle.std.proofs.Common.{◌≡◌, ◌≤◌, ◌<◌, ◌*◌, ◌++◌, ℕ, List, [], length, take, Option, Some, None, IfSome, sym, ap, subst, ◌∙◌, append-nil, arith}
use Rattle.std.proofs.lemmas.List.{length-take-le}
use Rattle.file_base.specs.declared.head.FileHead.{FileHead}
use Rattle.bucket_page.specs.Pages.{IsBucket}
use Rattle.indexed_file.specs.records_model.Slots.{Slot, value_in, lookup, slot_at, IsOrdered}
use Rattle.index_blocks.specs.Buckets.{bucket_at}
use Rattle.index_blocks.specs.Levels.{leaf_for}
use Rattle.indexed_file.specs.Chain.{kind_of, slots_in, IsLeaf}
use Rattle.indexed_file.specs.Places.{Decides}
use Rattle.indexed_file.specs.Raws.{slots_at}
use Rattle.indexed_tree.specs.Maps.{all_slots}
use Rattle.indexed_tree.specs.Rooted.{IsRooted}
use Rattle.indexed_tree.proofs.RootLaws.{rooted_finds, leaf_order}

abbrev Told : Type 0
Told = Option (List (List ℕ))

-- what was read of the bytes of a leaf is so of the leaf
pub leaf_read : (told : Told) (h : FileHead) (n size : ℕ) (frame bytes : List ℕ) (P : List ℕ → Type 0) → frame ≡ bytes → size ≡ 512 * h.bucket → 512 * h.bucket ≤ length bytes → IfSome told (λ b. take (512 * h.bucket) frame ≡ bucket_at h b n)
    → (IsBucket (kind_of h) (length (take size bytes)) (take size bytes) → P (take size bytes)) → IfSome told (λ b. IsLeaf h (bucket_at h b n) → P (bucket_at h b n))
leaf_read None h n size frame bytes P same is long read fact = tt
leaf_read (Some b) h n size frame bytes P same is long read fact = λ leaf.
    let here : take size bytes ≡ bucket_at h b n = (λ i. take (is i) (sym same i)) ∙ read in
    let count : length (take size bytes) ≡ 512 * h.bucket = length-take-le size bytes (omega (arith, is, long)) ∙ is in
    let B : List ℕ → Type 0 = λ x. IsBucket (kind_of h) (512 * h.bucket) x in
    let Q : ℕ → Type 0 = λ m. IsBucket (kind_of h) m (take size bytes) in
    subst P here (fact (subst Q (sym count) (subst B (sym here) leaf.bucket)))

-- what a leaf decides is what the key has there
pub decided : (told : Told) (h : FileHead) (n : ℕ) (k : List ℕ) (v : Option (List ℕ)) → IfSome told (λ b. IsLeaf h (bucket_at h b n) → Decides k (slots_at h (bucket_at h b n)) v)
    → IfSome told (λ b. IsLeaf h (bucket_at h b n) → IsOrdered (slots_in h b n) → lookup (slots_in h b n) k ≡ v)
decided None h n k v fact = tt
decided (Some b) h n k v fact = λ leaf order.
    let whole : slots_in h b n ++ [] ≡ slots_in h b n = append-nil (slots_in h b n) in
    ap (λ (ss : List Slot). lookup ss k) (sym whole) ∙ fact leaf [] (subst IsOrdered (sym whole) order)

pub missing : (told : Told) (h : FileHead) (n : ℕ) (k : List ℕ) → IfSome told (λ b. IsLeaf h (bucket_at h b n) → slot_at k (slots_at h (bucket_at h b n)) ≡ None)
    → IfSome told (λ b. IsLeaf h (bucket_at h b n) → IsOrdered (slots_in h b n) → lookup (slots_in h b n) k ≡ None)
missing None h n k fact = tt
missing (Some b) h n k fact = λ leaf order. ap value_in (fact leaf)

-- what the key has in the leaf for it is what it has
pub key_told : (told : Told) (h : FileHead) (k : List ℕ) (n : ℕ) (v : Option (List ℕ)) → h.root < h.used → IfSome told (λ b. IsRooted h b → n ≡ leaf_for h b k)
    → IfSome told (λ b. IsLeaf h (bucket_at h b n) → IsOrdered (slots_in h b n) → lookup (slots_in h b n) k ≡ v) → IfSome told (λ b. IsRooted h b → lookup (all_slots h b) k ≡ v)
key_told None h k n v root at fact = tt
key_told (Some b) h k n v root at fact = λ is.
    let finds = rooted_finds h b k root is in
    let same = at is in
    ap value_in finds.finds ∙ ap (λ m. lookup (slots_in h b m) k) (sym same) ∙ fact (subst (λ m. IsLeaf h (bucket_at h b m)) (sym same) finds.leaf) (subst (λ m. IsOrdered (slots_in h b m)) (sym same) (leaf_order h b k is root))
