-- What is so of a file of one organization is so by the head's organization.
use Rattle.std.proofs.Common.{◌≡◌, ◌≤◌, ℕ, Bool, true, List, Option, Some, Result, Ok, Err, OnOk, IfSome, option_map, sym, ap, subst}
use Rattle.file_base.specs.declared.head.FileHead.{FileHead}
use Rattle.file_base.specs.declared.head.Organization.{Organization}
use Rattle.vms_base.specs.vms_model.Keys.{Key}
use Rattle.relative_file.specs.tree_model.Layouts.{Sizes}
use Rattle.relative_file.specs.tree_model.Setting.{layout_set, layout_back}
use Rattle.relative_file.specs.change_set.Maps.{set_key}
use Rattle.relative_file.specs.change_set.Files.{SameFile}
use Rattle.seq_file.specs.Records.{cut_from}
use Rattle.seq_file.specs.Layout.{capacity, UsedBefore}
use Rattle.record_files.specs.Any.{map_by, FormBy, LaidOutBy, TakesBy, RestoresBy, room_by, used_by, layout_by, map_of, IsFile, IsLaidOut, Takes, Restores, room_at, used_after, layout_of}

-- a fact about the organizations of a head and of the same file's later head
pub both : {T E : Type 0} (P : Organization → Organization → Type 0) (r : Result T E) (o : Organization) (h h' : FileHead) → h.organization ≡ o → OnOk r (SameFile h h') → OnOk r (P o o) → OnOk r (P h.organization h'.organization)
both P (Ok x) o h h' is same p = subst (λ (q : Organization). P h.organization q) (sym (ap (λ (s : FileHead). s.organization) same.is)) (subst (λ (q : Organization). P q q) (sym is) p)
both P (Err e) o h h' is same p = tt

pub set_map : {T E : Type 0} (r : Result T E) (o : Organization) (h h' : FileHead) (k : Key) (v : Option (List ℕ)) (old new : Option (List (List ℕ))) → h.organization ≡ o → OnOk r (SameFile h h')
    → OnOk r (IfSome old (λ before. LaidOutBy o h before → TakesBy o h before k v → option_map (map_by o h') new ≡ Some (set_key k v (map_by o h before))))
    → OnOk r (IfSome old (λ before. IsLaidOut h before → Takes h before k v → option_map (map_of h') new ≡ Some (set_key k v (map_of h before))))
set_map r o h h' k v old new is same p = both (λ a b. IfSome old (λ before. LaidOutBy a h before → TakesBy a h before k v → option_map (map_by b h') new ≡ Some (set_key k v (map_by a h before)))) r o h h' is same p

pub set_valid : {T E : Type 0} (r : Result T E) (o : Organization) (h h' : FileHead) (k : Key) (v : Option (List ℕ)) (old new : Option (List (List ℕ))) → h.organization ≡ o → OnOk r (SameFile h h')
    → OnOk r (IfSome old (λ before. LaidOutBy o h before → TakesBy o h before k v → IfSome new (LaidOutBy o h')))
    → OnOk r (IfSome old (λ before. IsLaidOut h before → Takes h before k v → IfSome new (IsLaidOut h')))
set_valid r o h h' k v old new is same p = both (λ a b. IfSome old (λ before. LaidOutBy a h before → TakesBy a h before k v → IfSome new (LaidOutBy b h'))) r o h h' is same p

pub set_used : {T E : Type 0} (r : Result T E) (o : Organization) (h h' : FileHead) (held : Key → Bool) (k : Key) (v : Option (List ℕ)) (old : Option (List (List ℕ))) → h.organization ≡ o → OnOk r (SameFile h h')
    → OnOk r (IfSome old (λ before. LaidOutBy o h before → TakesBy o h before k v → h'.used ≡ used_by o h before held k v))
    → OnOk r (IfSome old (λ before. IsLaidOut h before → Takes h before k v → h'.used ≡ used_after h before held k v))
set_used r o h h' held k v old is same p = both (λ a b. IfSome old (λ before. LaidOutBy a h before → TakesBy a h before k v → h'.used ≡ used_by a h before held k v)) r o h h' is same p

pub set_rooms : {T E : Type 0} (r : Result T E) (o : Organization) (h h' : FileHead) (held : Key → Bool) (k : Key) (v : Option (List ℕ)) (old new : Option (List (List ℕ))) → h.organization ≡ o → OnOk r (SameFile h h')
    → OnOk r (IfSome old (λ before. LaidOutBy o h before → TakesBy o h before k v → IfSome new (λ after. (other : Key) → held other ≡ true → room_by o h before other ≤ room_by o h' after other)))
    → OnOk r (IfSome old (λ before. IsLaidOut h before → Takes h before k v → IfSome new (λ after. (other : Key) → held other ≡ true → room_at h before other ≤ room_at h' after other)))
set_rooms r o h h' held k v old new is same p = both (λ a b. IfSome old (λ before. LaidOutBy a h before → TakesBy a h before k v → IfSome new (λ after. (other : Key) → held other ≡ true → room_by a h before other ≤ room_by b h' after other))) r o h h' is same p

pub set_layout : {T E : Type 0} (r : Result T E) (o : Organization) (h h' : FileHead) (sizes : Sizes) (held : Key → Bool) (k : Key) (v : Option (List ℕ)) (old new : Option (List (List ℕ))) → h.organization ≡ o → OnOk r (SameFile h h')
    → OnOk r (IfSome old (λ before. LaidOutBy o h before → TakesBy o h before k v → option_map (layout_by o h') new ≡ Some (layout_set sizes held k v (layout_by o h before))))
    → OnOk r (IfSome old (λ before. IsLaidOut h before → Takes h before k v → option_map (layout_of h') new ≡ Some (layout_set sizes held k v (layout_of h before))))
set_layout r o h h' sizes held k v old new is same p = both (λ a b. IfSome old (λ before. LaidOutBy a h before → TakesBy a h before k v → option_map (layout_by b h') new ≡ Some (layout_set sizes held k v (layout_by a h before)))) r o h h' is same p

pub set_back : {T E : Type 0} (r : Result T E) (o : Organization) (h h' : FileHead) (k : Key) (v : Option (List ℕ)) (old new : Option (List (List ℕ))) → h.organization ≡ o → OnOk r (SameFile h h')
    → OnOk r (IfSome old (λ before. LaidOutBy o h before → TakesBy o h before k v → IfSome new (λ after. RestoresBy o h' after k (map_by o h before k))))
    → OnOk r (IfSome old (λ before. IsLaidOut h before → Takes h before k v → IfSome new (λ after. Restores h' after k (map_of h before k))))
set_back r o h h' k v old new is same p = both (λ a b. IfSome old (λ before. LaidOutBy a h before → TakesBy a h before k v → IfSome new (λ after. RestoresBy b h' after k (map_by a h before k)))) r o h h' is same p

pub restore_map : {T E : Type 0} (r : Result T E) (o : Organization) (h h' : FileHead) (k : Key) (v : Option (List ℕ)) (old new : Option (List (List ℕ))) → h.organization ≡ o → OnOk r (SameFile h h')
    → OnOk r (IfSome old (λ before. LaidOutBy o h before → RestoresBy o h before k v → option_map (map_by o h') new ≡ Some (set_key k v (map_by o h before))))
    → OnOk r (IfSome old (λ before. IsLaidOut h before → Restores h before k v → option_map (map_of h') new ≡ Some (set_key k v (map_of h before))))
restore_map r o h h' k v old new is same p = both (λ a b. IfSome old (λ before. LaidOutBy a h before → RestoresBy a h before k v → option_map (map_by b h') new ≡ Some (set_key k v (map_by a h before)))) r o h h' is same p

pub restore_valid : {T E : Type 0} (r : Result T E) (o : Organization) (h h' : FileHead) (k : Key) (v : Option (List ℕ)) (old new : Option (List (List ℕ))) → h.organization ≡ o → OnOk r (SameFile h h')
    → OnOk r (IfSome old (λ before. LaidOutBy o h before → RestoresBy o h before k v → IfSome new (LaidOutBy o h')))
    → OnOk r (IfSome old (λ before. IsLaidOut h before → Restores h before k v → IfSome new (IsLaidOut h')))
restore_valid r o h h' k v old new is same p = both (λ a b. IfSome old (λ before. LaidOutBy a h before → RestoresBy a h before k v → IfSome new (LaidOutBy b h'))) r o h h' is same p

pub restore_rooms : {T E : Type 0} (r : Result T E) (o : Organization) (h h' : FileHead) (k : Key) (v : Option (List ℕ)) (old new : Option (List (List ℕ))) → h.organization ≡ o → OnOk r (SameFile h h')
    → OnOk r (IfSome old (λ before. LaidOutBy o h before → RestoresBy o h before k v → IfSome new (λ after. (other : Key) → room_by o h before other ≤ room_by o h' after other)))
    → OnOk r (IfSome old (λ before. IsLaidOut h before → Restores h before k v → IfSome new (λ after. (other : Key) → room_at h before other ≤ room_at h' after other)))
restore_rooms r o h h' k v old new is same p = both (λ a b. IfSome old (λ before. LaidOutBy a h before → RestoresBy a h before k v → IfSome new (λ after. (other : Key) → room_by a h before other ≤ room_by b h' after other))) r o h h' is same p

pub restore_layout : {T E : Type 0} (r : Result T E) (o : Organization) (h h' : FileHead) (k : Key) (v : Option (List ℕ)) (old new : Option (List (List ℕ))) → h.organization ≡ o → OnOk r (SameFile h h')
    → OnOk r (IfSome old (λ before. LaidOutBy o h before → RestoresBy o h before k v → option_map (layout_by o h') new ≡ Some (layout_back k v (layout_by o h before))))
    → OnOk r (IfSome old (λ before. IsLaidOut h before → Restores h before k v → option_map (layout_of h') new ≡ Some (layout_back k v (layout_of h before))))
restore_layout r o h h' k v old new is same p = both (λ a b. IfSome old (λ before. LaidOutBy a h before → RestoresBy a h before k v → option_map (layout_by b h') new ≡ Some (layout_back k v (layout_by a h before)))) r o h h' is same p

pub set_form : {T E : Type 0} (r : Result T E) (o : Organization) (h h' : FileHead) → h.organization ≡ o → OnOk r (SameFile h h') → OnOk r (FormBy o h') → OnOk r (IsFile h')
set_form r o h h' is same p = both (λ a b. FormBy b h') r o h h' is same p

pub cut_map : {T E : Type 0} (r : Result T E) (o : Organization) (h h' : FileHead) (from : ℕ) (old new : Option (List (List ℕ))) → h.organization ≡ o → OnOk r (SameFile h h')
    → OnOk r (IfSome old (λ before. LaidOutBy o h before → option_map (map_by o h') new ≡ Some (cut_from from (map_by o h before))))
    → OnOk r (IfSome old (λ before. IsLaidOut h before → option_map (map_of h') new ≡ Some (cut_from from (map_of h before))))
cut_map r o h h' from old new is same p = both (λ a b. IfSome old (λ before. LaidOutBy a h before → option_map (map_by b h') new ≡ Some (cut_from from (map_by a h before)))) r o h h' is same p

pub cut_valid : {T E : Type 0} (r : Result T E) (o : Organization) (h h' : FileHead) (old new : Option (List (List ℕ))) → h.organization ≡ o → OnOk r (SameFile h h')
    → OnOk r (IfSome old (λ before. LaidOutBy o h before → IfSome new (LaidOutBy o h')))
    → OnOk r (IfSome old (λ before. IsLaidOut h before → IfSome new (IsLaidOut h')))
cut_valid r o h h' old new is same p = both (λ a b. IfSome old (λ before. LaidOutBy a h before → IfSome new (LaidOutBy b h'))) r o h h' is same p

pub cut_used : {T E : Type 0} (r : Result T E) (o : Organization) (h h' : FileHead) (n : ℕ) (old : Option (List (List ℕ))) → h.organization ≡ o → OnOk r (SameFile h h')
    → OnOk r (IfSome old (λ before. LaidOutBy o h before → UsedBefore (capacity h) n (map_by o h before) h'.used))
    → OnOk r (IfSome old (λ before. IsLaidOut h before → UsedBefore (capacity h) n (map_of h before) h'.used))
cut_used r o h h' n old is same p = both (λ a b. IfSome old (λ before. LaidOutBy a h before → UsedBefore (capacity h) n (map_by a h before) h'.used)) r o h h' is same p
