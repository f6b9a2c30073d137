-- Records of a file that is laid out may be its own.
use Rattle.std.proofs.Common.{◌≡◌, ◌≤◌, ◌+◌, ◌-◌, ℕ, zero, suc, Bool, true, false, List, [], ◌∷◌, ◌++◌, length, take, drop, map, Option, Some, None, IfSome, if◌then◌else◌, refl, sym, ◌∙◌, ap, subst, arith, length-drop}
use Rattle.std.specs.Prelude.{◌&&◌}
use Rattle.std.proofs.lemmas.List.{length-take-le}
use Rattle.std.specs.FinMap.{get}
use Rattle.file_base.specs.Bytes.{piece_at}
use Rattle.file_base.specs.declared.head.FileHead.{FileHead}
use Rattle.file_base.specs.declared.head.Organization.{Organization as Kept}
use Rattle.file_base.specs.declared.head.Organization.TheVariants as kept
use Rattle.seq_file.specs.bucket_page.Pages.{all_suit, key_in, suits, u16_at}
use Rattle.vms_model.specs.Ids.{Id}
use Rattle.vms_model.specs.Keys.{End, Key, Number, Text}
use Rattle.records_model.specs.History.{current}
use Rattle.records_model.specs.Records.{Records}
use Rattle.records_model.specs.Slots.{Slot, lookup, same_bytes, slot_at, value_in}
use Rattle.records_model.proofs.SlotLaws.{same_bytes_are}
use Rattle.seq_file.specs.Layout as sequential
use Rattle.seq_file.specs.Layout.{IsRecord}
use Rattle.seq_file.specs.Records.{record_at}
use Rattle.relative_file.specs.Cells as relative
use Rattle.relative_file.specs.Cells.{has_cell}
use Rattle.index_model.specs.tree_model.Layouts.{slots_along}
use Rattle.index_model.specs.Indexes.{Entry}
use Rattle.index_model.specs.Trees.{child_of, leaf_at}
use Rattle.recover_rms.specs.index_blocks.Buckets.{bucket_at as leaf_bytes}
use Rattle.recover_rms.specs.index_blocks.Levels.{AllAre, leaf_entries}
use Rattle.indexed_file.specs.Chain.{IsLeaf, kind_of, slot_of, slots_in}
use Rattle.indexed_file.proofs.LeafLaws.{data_tells}
use Rattle.recover_rms.specs.indexed_tree.Files as indexed
use Rattle.recover_rms.specs.indexed_tree.Maps.{all_slots}
use Rattle.recover_rms.specs.indexed_tree.Rooted.{IsRooted}
use Rattle.recover_rms.specs.record_files.Any.{FormBy, IsFile, IsLaidOut, LaidOutBy, Suits, SuitsBy, map_by, map_of}
use Rattle.world_laws.specs.recovery_model.File.{FileState, Save}
use Rattle.world_laws.specs.recovery_model.Journal.{Changed}
use Rattle.world_laws.specs.recovery_model.Recovery.{rolled}
use Rattle.recover_rms.specs.save_laws.Saves.{save_head}
use Rattle.unit_world.specs.directory_model.Files.{IsWithin}
use Rattle.unit_world.proofs.restart_laws.FoundLemmas.{Keeps, cell_suits, record_is, slot_suits}
use Rattle.unit_world.specs.file_images.Files.{HasSave, SavedIn}
use Rattle.unit_world.proofs.file_images.Forms.{suited_by_form, suited_by_head}
use Rattle.recover_rms.specs.file_recoveries.Causes.{cause_of, way_of}
use Rattle.recover_rms.specs.file_recoveries.Files.{HasFile}
use Rattle.recover_rms.specs.file_recoveries.Suiting.{MayHave}
use Rattle.recover_rms.specs.file_recoveries.declared.causes.Way.{Way}
use Rattle.recover_rms.proofs.file_recoveries.SuitLemmas.{records_suit}
use Rattle.recovered_nodes.specs.Rows.{RecordsMayStand}

-- The keys of an indexed file have their size.

both_true : (a b : Bool) → (a && b) ≡ true → (a ≡ true) × (b ≡ true)
both_true true b e = (refl, e)
both_true false b e = cc

raw_long : (h : FileHead) (raw : List ℕ) → suits (kind_of h) raw ≡ true → length (key_in (kind_of h) raw) ≡ h.key_size
raw_long h raw suit =
    let tells = data_tells (length raw) (u16_at raw 0) (u16_at raw 2) (h.key_pos + h.key_size) suit in
    length-take-le h.key_size (drop (4 + h.key_pos) raw) (omega (arith, tells.key, length-drop (4 + h.key_pos) raw))

abbrev AllLong : ℕ → List Slot → Type 0
AllLong n [] = Unit {0}
AllLong n (s ∷ ss) = (length s.key ≡ n) × AllLong n ss

raws_long : (h : FileHead) (raws : List (List ℕ)) → all_suit (kind_of h) raws ≡ true → AllLong h.key_size (map (slot_of h) raws)
raws_long h [] all = tt
raws_long h (raw ∷ raws) all = let both = both_true (suits (kind_of h) raw) (all_suit (kind_of h) raws) all in (raw_long h raw both.0, raws_long h raws both.1)

long_append : (n : ℕ) (a b : List Slot) → AllLong n a → AllLong n b → AllLong n (a ++ b)
long_append n [] b first second = second
long_append n (s ∷ ss) b first second = (first.0, long_append n ss b first.1 second)

along_long : (h : FileHead) (c : List (List ℕ)) (es : List Entry) → AllAre (λ n. IsLeaf h (leaf_bytes h c n)) (map child_of es) → AllLong h.key_size (slots_along (map (leaf_at (slots_in h c)) es))
along_long h c [] leaves = tt
along_long h c (e ∷ es) leaves = long_append h.key_size (slots_in h c e.child) (slots_along (map (leaf_at (slots_in h c)) es)) (raws_long h _ leaves.0.bucket.packed.suit) (along_long h c es leaves.1)

found_long : (n : ℕ) (slots : List Slot) (k v : List ℕ) → AllLong n slots → lookup slots k ≡ Some v → length k ≡ n
found_long n [] k v all found = let no : ⊥ = cc in absurd no
found_long n (s ∷ ss) k v all found = go (same_bytes k s.key) refl (found_long n ss k v all.1) found
  where
    go : (t : Bool) → same_bytes k s.key ≡ t → (lookup ss k ≡ Some v → length k ≡ n) → value_in (if t then Some s else slot_at k ss) ≡ Some v → length k ≡ n
    go true is rest found = ap (λ (bytes : List ℕ). length bytes) (same_bytes_are k s.key is) ∙ all.0
    go false is rest found = rest found

-- What a key has, the file may have there.

given : {X : Type 0} (P : X → Type 0) (o : Option X) (x : X) → o ≡ Some x → IfSome o P → P x
given {X = X} P o x is p = subst (λ (q : Option X). IfSome q P) is p

by_position : (h : FileHead) (c : List (List ℕ)) (n : ℕ) (v : List ℕ) → sequential.IsLaidOut h c → record_at (sequential.records_in h c) n ≡ Some v → sequential.Suits h (Number n) (Some v)
by_position h c zero v laid has = let no : ⊥ = cc in absurd no
by_position h c (suc n) v laid has = (omega arith, given (IsRecord h.mrs) (record_at (sequential.records_in h c) (suc n)) v has (record_is h.mrs (sequential.records_in h c) (suc n) laid.records))

by_cell : (h : FileHead) (c : List (List ℕ)) (n : ℕ) (v : List ℕ) → relative.IsRelative h → IsWithin c h → relative.map_of h c (Number n) ≡ Some v → relative.Suits h (Number n) (Some v)
by_cell h c n v form within has = go (has_cell h n) refl has
  where
    go : (t : Bool) → has_cell h n ≡ t → (if t then relative.record_in h.mrs (relative.cell_at h c n) else None) ≡ Some v → relative.Suits h (Number n) (Some v)
    go true is found = (is, given (λ (r : List ℕ). (1 ≤ length r) × (length r ≤ h.mrs)) (relative.map_of h c (Number n)) v has (cell_suits c h n form within is))
    go false is found = let no : ⊥ = cc in absurd no

by_text : (h : FileHead) (c : List (List ℕ)) (k v : List ℕ) → IsRooted h c → indexed.map_of h c (Text k) ≡ Some v → SuitsBy kept.Indexed h (Text k) (Some v)
by_text h c k v laid has =
    let keeps = given (Keeps h k) (indexed.map_of h c (Text k)) v has (slot_suits c h k laid) in
    record { size = found_long h.key_size (all_slots h c) k v (along_long h c (leaf_entries h c) laid.leaves) has; has = keeps.has; most = keeps.most }

laid_suits : (o : Kept) (h : FileHead) (c : List (List ℕ)) (k : Key) (v : List ℕ) → FormBy o h → LaidOutBy o h c → IsWithin c h → map_by o h c k ≡ Some v → SuitsBy o h k (Some v)
laid_suits kept.Sequential h c (Number n) v form laid within has = by_position h c n v laid has
laid_suits kept.Sequential h c (Text t) v form laid within has = let no : ⊥ = cc in absurd no
laid_suits kept.Sequential h c End v form laid within has = let no : ⊥ = cc in absurd no
laid_suits kept.Relative h c (Number n) v form laid within has = by_cell h c n v form within has
laid_suits kept.Relative h c (Text t) v form laid within has = let no : ⊥ = cc in absurd no
laid_suits kept.Relative h c End v form laid within has = let no : ⊥ = cc in absurd no
laid_suits kept.Indexed h c (Text t) v form laid within has = by_text h c t v laid has
laid_suits kept.Indexed h c (Number n) v form laid within has = let no : ⊥ = cc in absurd no
laid_suits kept.Indexed h c End v form laid within has = let no : ⊥ = cc in absurd no

laid_may : (h : FileHead) (c : List (List ℕ)) (m : Records) → IsFile h → IsLaidOut h c → IsWithin c h → ((k : Key) → map_of h c k ≡ get m k) → MayHave h m
laid_may h c m form laid within same k v has = laid_suits h.organization h c k v form laid within (same k ∙ has)

-- The save is of the same form.

no_id : Id
no_id = record { node = []; boot = 0; seq = 0 }

save_suits : (h : FileHead) (k : Key) (v : List ℕ) → Suits (save_head h) k (Some v) → Suits h k (Some v)
save_suits h k v suits = suited_by_head h (Changed no_id k (Some v)) (suited_by_form (save_head h) (Changed no_id k (Some v)) suits)

saved_may : (h : FileHead) (c : List (List ℕ)) (v : Save) → SavedIn c h v → IsWithin c (save_head h) → MayHave h v.records
saved_may h c v saved within k bytes has = save_suits h k bytes (laid_may (save_head h) c v.records saved.form saved.laid within saved.records k bytes has)

pub records_may : RecordsMayStand
records_may c f h way s has allowed within saved_within =
    records_suit c f h way s has allowed (laid_may h c (current s.timeline.history) has.form has.laid within has.records) (λ v is. by_mark h.marks.save refl v is (subst (HasSave c h.marks.save h) is has.save))
  where
    by_mark : (b : Bool) → h.marks.save ≡ b → (v : Save) → s.save ≡ Some v → HasSave c b h (Some v) → MayHave h v.records
    by_mark true marked v is saved = saved_may h c v saved (saved_within marked)
    by_mark false marked v is saved = absurd saved
