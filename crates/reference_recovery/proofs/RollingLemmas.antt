-- Records rolled on and back, by one entry.
use Rattle.std.proofs.Common.{◌≡◌, ◌≤◌, ℕ, List, [], ◌∷◌, Bool, true, false, Option, refl, sym, ap, ◌∙◌, length, get_or}
use Rattle.std.specs.Prelude.{map, if◌then◌else◌, Vec}
use Rattle.std.specs.declared.alloc.Global.{Global}
use Rattle.vms_model.specs.Ids.{Id}
use Rattle.records_model.specs.Records.{Records, set_key}
use Rattle.reference_index.specs.recovery_model.File.{all_of}
use Rattle.reference_index.specs.recovery_model.Journal.{Entry, Changed, Settled, forward, backward}
use Rattle.reference_index.specs.Standing.{key_of, value_of}
use Rattle.reference_index.specs.declared.keys.Key.{Key}
use Rattle.reference_index.proofs.ListLemmas.{behind_first, parts}
use Rattle.reference_world.specs.declared.world.Placed.{Placed}
use Rattle.reference_world.specs.declared.world.Image.{Image}
use Rattle.reference_world.specs.declared.world.Image.TheVariants as image
use Rattle.reference_world.specs.Standing.{image_of, placed_of}
use Rattle.reference_recovery.specs.Chosen.{set_chosen}

on_by : (p : Id → Bool) (e : Entry) (es : List Entry) (m : Records) → set_chosen p e (forward p es m) ≡ forward p (e ∷ es) m
on_by p (Changed s k v) es m = refl
on_by p (Settled s outcome t) es m = refl

back_by : (p : Id → Bool) (e : Entry) (es : List Entry) (m : Records) → backward p es (set_chosen p e m) ≡ backward p (e ∷ es) m
back_by p (Changed s k v) es m = refl
back_by p (Settled s outcome t) es m = refl

-- rolled on by the first of some entries
pub forward_first : (p : Id → Bool) (xs : List Placed) (x : Placed) (m : Records) → 1 ≤ length xs → x ≡ get_or xs 0 x →
    set_chosen p (placed_of x).entry (forward p (all_of (map placed_of (behind_first xs))) m) ≡ forward p (all_of (map placed_of xs)) m
forward_first p xs x m some is = on_by p (placed_of x).entry (all_of (map placed_of (behind_first xs))) m ∙ ap (λ ys. forward p (all_of (map placed_of ys)) m) (sym (parts xs x some is))

-- and back
pub backward_first : (p : Id → Bool) (xs : List Placed) (x : Placed) (m : Records) → 1 ≤ length xs → x ≡ get_or xs 0 x →
    backward p (all_of (map placed_of (behind_first xs))) (set_chosen p (placed_of x).entry m) ≡ backward p (all_of (map placed_of xs)) m
backward_first p xs x m some is = back_by p (placed_of x).entry (all_of (map placed_of (behind_first xs))) m ∙ ap (λ ys. backward p (all_of (map placed_of ys)) m) (sym (parts xs x some is))

-- an entry of a branch that is chosen, of one that is not, and of a settlement
pub chosen_sets : (p : Id → Bool) (serial : Id) (i : Image) (k : Key) (v : Option (Vec ℕ Global)) (m : Records) → i ≡ image.Changed k v → p serial ≡ true → set_chosen p (image_of serial i) m ≡ set_key m (key_of k) (value_of v)
chosen_sets p serial i k v m is passes = ap (λ x. set_chosen p (image_of serial x) m) is ∙ ap (λ b. if b then set_key m (key_of k) (value_of v) else m) passes

pub others_stay : (p : Id → Bool) (serial : Id) (i : Image) (k : Key) (v : Option (Vec ℕ Global)) (m : Records) → i ≡ image.Changed k v → p serial ≡ false → set_chosen p (image_of serial i) m ≡ m
others_stay p serial i k v m is fails = ap (λ x. set_chosen p (image_of serial x) m) is ∙ ap (λ b. if b then set_key m (key_of k) (value_of v) else m) fails
