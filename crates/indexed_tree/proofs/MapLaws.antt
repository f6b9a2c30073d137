-- What each key has once one was set.
use Rattle.std.proofs.Common.{◌≡◌, ◌≤◌, ◌<◌, inl, inr, ◌+◌, ◌*◌, ◌==◌, ℕ, Bool, true, false, List, length, take, replicate, Option, Some, None, IfSome, IsSomeAnd, if◌then◌else◌, nat_le, refl, sym, ap, subst, ◌∙◌, arith}
use Rattle.std.proofs.lemmas.Bool.Decides.{nat_tests}
use Rattle.block_disk.specs.Disk.{DiskState}
use Rattle.file_base.specs.declared.head.FileHead.{FileHead}
use Rattle.bucket_page.specs.Pages.{slots_of, IsBucket}
use Rattle.indexed_file.specs.change_set.Files.{IsPlaced}
use Rattle.indexed_file.specs.records_model.Slots.{Slot, bytes_before, lookup, size_of, room_of, room_in, put, tidied, IsOrdered}
use Rattle.indexed_file.specs.records_model.Parts.{bytes_of, added_buckets}
use Rattle.indexed_file.proofs.records_model.SlotLaws.{if_true}
use Rattle.indexed_file.specs.tree_model.Layouts.{Layout, slots_along}
use Rattle.indexed_file.specs.tree_model.Laws.{first_lowest, TreeHasSet, TreeRooms}
use Rattle.indexed_file.specs.tree_model.Setting.{layout_with}
use Rattle.indexed_file.proofs.tree_model.RoomLemmas.{tree_keeps_rooms}
use Rattle.indexed_file.proofs.tree_model.SetLemmas.{tree_has_set}
use Rattle.indexed_file.proofs.tree_model.ZeroLemmas.{zeros_least}
use Rattle.index_blocks.specs.index_bucket.Entries.{sizes_of}
use Rattle.index_blocks.proofs.index_bucket.HandLaws.{fan_out_wide}
use Rattle.index_blocks.specs.Buckets.{bucket_at}
use Rattle.index_blocks.specs.Laws.{IsNoted}
use Rattle.index_blocks.specs.Levels.{leaf_for, HasRoot}
use Rattle.indexed_file.specs.Chain.{kind_of, slots_in, added_by_set, all_keep, HasKeys, IsLeaf, SuitsText}
use Rattle.indexed_file.specs.Raws.{SetsLeaf}
use Rattle.indexed_file.specs.Sets.{SetsBytes}
use Rattle.indexed_file.proofs.FileLaws.{parted_added}
use Rattle.indexed_file.proofs.ImplLaws.{put_small, value_some}
use Rattle.indexed_file.proofs.RawLaws.{bytes_of_raws}
use Rattle.indexed_file.proofs.SetLaws.{sets_added}
use Rattle.indexed_tree.specs.Maps.{all_slots, need_in, TakesKey, KeyIsSet}
use Rattle.indexed_tree.specs.Puts.{MayPart, PutsLeaf, SetsRead}
use Rattle.indexed_tree.specs.Rooted.{layout_in, IsRooted}
use Rattle.indexed_tree.specs.Sets.{HasSet}
use Rattle.indexed_tree.proofs.RootLaws.{layout_tells, rooted_finds, leaf_order}

abbrev Told : Type 0
Told = Option (List (List ℕ))

-- a file in which a key was set has it set
pub key_is_set : (h h' : FileHead) (held : List ℕ → Bool) (k : List ℕ) (v : Option (List ℕ)) (b b' : List (List ℕ)) → HasRoot h → 1 ≤ h.bucket → length k ≡ h.key_size → 4 + size_of v ≤ (sizes_of h).capacity → IsRooted h b
    → HasSet h h' held k v b b' → KeyIsSet h h' held k v b b'
key_is_set h h' held k v b b' form one key fits is set =
    let l = layout_in h b in
    let from : bytes_before k (first_lowest l.leaves) ≡ false = ap (bytes_before k) ((layout_tells h b form.some is).first ∙ ap (λ m. replicate m 0) (sym key)) ∙ zeros_least k in
    let has : TreeHasSet (sizes_of h) k v l (layout_with (sizes_of h) held k v l) = tree_has_set (sizes_of h) held k v l (fan_out_wide h.bucket h.key_size one form.short) fits from is.tree in
    let rooms : TreeRooms held k l (layout_with (sizes_of h) held k v l) = tree_keeps_rooms (sizes_of h) held k v l is.tree in
    let same : all_slots h' b' ≡ slots_along (layout_with (sizes_of h) held k v l).leaves = ap (λ (x : Layout). slots_along x.leaves) set.layout in
    record {
      file = set;
      sets = λ q. ap (λ (ss : List Slot). lookup ss q) same ∙ has.sets q;
      rooms = λ q is_held. subst (λ (ss : List Slot). room_of (all_slots h b) q ≤ room_of ss q) (sym same) (rooms.rooms q is_held);
      back = subst (λ (ss : List Slot). size_of (lookup (all_slots h b) k) ≤ room_of ss k) (sym same) rooms.back;
    }

-- a record that suits fits a leaf
pub suits_fits : (h : FileHead) (disk : DiskState) (k : List ℕ) (v : Option (List ℕ)) → IsPlaced h disk → SuitsText h k v → 4 + size_of v ≤ (sizes_of h).capacity
suits_fits h disk k None placed suits = omega (arith, placed.records)
suits_fits h disk k (Some r) placed suits = omega (arith, placed.records, suits.most)

-- the leaf that was read into a frame has the key set
leaf_set : (h : FileHead) (b : List (List ℕ)) (held : List ℕ → Bool) (k : List ℕ) (v : Option (List ℕ)) (n added : ℕ) (frame low mid high : List ℕ) → h.root < h.used → IsRooted h b → n ≡ leaf_for h b k → take (512 * h.bucket) frame ≡ bucket_at h b n
    → SetsBytes h held k v frame added low mid high → SetsLeaf h held k v (512 * h.bucket) h.used (bucket_at h b n) added (take (512 * h.bucket) low) (take (512 * h.bucket) mid) (take (512 * h.bucket) high)
leaf_set h b held k v n added frame low mid high root is at read sets =
    let leaf = subst (λ m. IsLeaf h (bucket_at h b m)) (sym at) (rooted_finds h b k root is).leaf in
    subst (λ (x : List ℕ). SetsLeaf h held k v (512 * h.bucket) h.used x added (take (512 * h.bucket) low) (take (512 * h.bucket) mid) (take (512 * h.bucket) high)) read
    (sets (subst (λ (x : List ℕ). IsBucket (kind_of h) (512 * h.bucket) x) (sym read) leaf.bucket) (subst (λ (x : List ℕ). all_keep h (slots_of (kind_of h) x) ≡ true) (sym read) leaf.kept))

pub taken : (told now : Told) (h h' : FileHead) (disk : DiskState) (held : List ℕ → Bool) (k : List ℕ) (v : Option (List ℕ)) (path : List ℕ) (n added : ℕ) (frame low mid high : List ℕ) → HasRoot h → IsPlaced h disk → SuitsText h k v
    → SetsBytes h held k v frame added low mid high → IfSome told (λ old. IsSomeAnd now (PutsLeaf h h' k path n added low mid high old)) → IfSome told (λ old. SetsRead h h' held k v path n frame old now)
taken None now h h' disk held k v path n added frame low mid high form placed suits sets puts = tt
taken (Some b) now h h' disk held k v path n added frame low mid high form placed suits sets puts = λ is noted at read takes. go now is noted at read puts
  where
    go : (o : Told) → IsRooted h b → IsNoted h b k path → n ≡ leaf_for h b k → take (512 * h.bucket) frame ≡ bucket_at h b n → IsSomeAnd o (PutsLeaf h h' k path n added low mid high b) → IsSomeAnd o (KeyIsSet h h' held k v b)
    go None is noted at read puts = puts
    go (Some c) is noted at read puts =
        let fits = suits_fits h disk k v placed suits in
        key_is_set h h' held k v b c form placed.one suits.size fits is (puts held v suits.size fits is noted at (leaf_set h b held k v n added frame low mid high form.root is at read sets))

no_more : (cap n : ℕ) (slots : List Slot) → n ≤ cap → (if nat_le n cap then 0 else added_buckets cap slots) ≡ 0
no_more cap n slots fits = if_true (nat_le n cap) 0 (added_buckets cap slots) (grind (arith, nat_tests))

-- a leaf in which the key has room for the value is not parted
room_adds_none : (h : FileHead) (b : List (List ℕ)) (held : List ℕ → Bool) (k : List ℕ) (v : Option (List ℕ)) (n added : ℕ) (low mid high : List ℕ) → 1 ≤ h.bucket → h.root < h.used → IfSome v (λ r. 1 ≤ length r) → IsRooted h b → n ≡ leaf_for h b k
    → SetsLeaf h held k v (512 * h.bucket) h.used (bucket_at h b n) added low mid high → size_of v ≤ room_of (all_slots h b) k → added ≡ 0
room_adds_none h b held k v n added low mid high one root some is at leaf room =
    let cap = (sizes_of h).capacity in
    let slots = slots_in h b n in
    let finds = rooted_finds h b k root is in
    let here : room_of (all_slots h b) k ≡ room_of slots k = ap room_in finds.finds ∙ ap (λ m. room_of (slots_in h b m) k) (sym at) in
    let bytes = put_small k v slots some (subst (λ m. IsOrdered (slots_in h b m)) (sym at) (leaf_order h b k is root)) (omega (arith, room, here)) in
    let laid = subst (λ m. IsLeaf h (bucket_at h b m)) (sym at) finds.leaf in
    let count = bytes_of_raws h (slots_of (kind_of h) (bucket_at h b n)) laid.bucket.packed.suit in
    let none : added_by_set cap held k v slots ≡ 0 = no_more cap (bytes_of (put k v slots)) (put k v (tidied held slots)) (omega (arith, bytes, count, laid.bucket.packed.fits)) in
    parted_added h (512 * h.bucket) h.used _ leaf.place added leaf.raws _ _ _ (omega (arith, one)) leaf.suit leaf.parted ∙ ap (added_buckets cap) leaf.slots ∙ sym (sets_added cap held k v slots) ∙ none

free_may : (h : FileHead) (disk : DiskState) → HasRoot h → IsPlaced h disk → h.alloc ≤ 65536 → h.used + need_in h ≤ h.alloc → MayPart h
free_may h disk form placed most free = go (h.levels == 12) refl free
  where
    go : (t : Bool) → (h.levels == 12) ≡ t → h.used + (if t then 65537 else h.levels + 2) ≤ h.alloc → MayPart h
    go true is free = absurd (omega (arith, free, most))
    go false is free = record { levels = (let less : h.levels < 12 = grind (arith, nat_tests, is, form.most) in less); free = free }

-- where the leaf would have to part and may not, the key was not to be set
pub not_taken : (told now : Told) (h : FileHead) (disk : DiskState) (held : List ℕ → Bool) (k : List ℕ) (v : Option (List ℕ)) (path : List ℕ) (n added : ℕ) (frame low mid high : List ℕ) → HasRoot h → HasKeys h → IsPlaced h disk → h.alloc ≤ 65536 → SuitsText h k v
    → SetsBytes h held k v frame added low mid high → 1 ≤ added → (MayPart h → ⊥) → IfSome told (λ old. SetsRead h h held k v path n frame old now)
not_taken None now h disk held k v path n added frame low mid high form keys placed most suits sets some not = tt
not_taken (Some b) now h disk held k v path n added frame low mid high form keys placed most suits sets some not = λ is noted at read takes. absurd (wrong is at read takes)
  where
    wrong : IsRooted h b → n ≡ leaf_for h b k → take (512 * h.bucket) frame ≡ bucket_at h b n → TakesKey h b k v → ⊥
    wrong is at read (inl room) =
        let none = room_adds_none h b held k v n added _ _ _ placed.one form.root (value_some h k v keys.key suits) is at (leaf_set h b held k v n added frame low mid high form.root is at read sets) room in
        omega (arith, none, some)
    wrong is at read (inr free) = not (free_may h disk form placed most free)
