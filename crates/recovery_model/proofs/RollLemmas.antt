-- What one more settlement does to RECOVER's two maps.
use Rattle.unit_laws.specs.vms_model.Ids.{Id}
use Rattle.unit_laws.specs.vms_model.Keys.{Key}
use Rattle.unit_laws.specs.records_model.History.{same_id}
use Rattle.unit_laws.specs.records_model.Records.{Records, set_key}
use Rattle.unit_laws.proofs.records_model.SlotLaws.{if_true, if_false}
use Rattle.recovery_model.specs.Images.{Image, touches}
use Rattle.recovery_model.specs.Journal.{Entry, Changed, Settled, forward, backward, images_by}
use Rattle.std.proofs.Common.{◌≡◌, ℕ, List, [], ◌∷◌, Bool, true, false, Option, refl, sym, ◌∙◌, ap}
use Rattle.std.specs.Prelude.{if◌then◌else◌}
use Rattle.recovery_model.proofs.Images.{sets, unsets}
use Rattle.recovery_model.proofs.Covering.{OnTop}
use Rattle.recovery_model.proofs.ImageLemmas.{sets_apart, unsets_apart}

-- the branches that pass, and one more
abbrev pub Joins : (Id → Bool) → Id → (Id → Bool) → Type 0
Joins p s q = (r : Id) → q r ≡ (if same_id r s then true else p r)

-- one step, by what the branch is
forward_step : (s r : Id) (k : Key) (v : Option (List ℕ)) (is : List Image) (f g : Records) (b pr qr : Bool) → (same_id r s) ≡ b → qr ≡ (if b then true else pr) → (b ≡ true → pr ≡ false) → (b ≡ false → touches k is ≡ false) → f ≡ sets is g →
    (if qr then set_key f k v else f) ≡ sets (if b then (k, v) ∷ is else is) (if pr then set_key g k v else g)
forward_step s r k v is f g true true qr e q n h ih = let no : ⊥ = (let t : true ≡ false = n refl in cc) in absurd no
forward_step s r k v is f g true false qr e q n h ih = if_true qr _ _ q ∙ ap (λ x. set_key x k v) ih
forward_step s r k v is f g false true qr e q n h ih = if_true qr _ _ q ∙ ap (λ x. set_key x k v) ih ∙ sym (sets_apart is g k v (h refl))
forward_step s r k v is f g false false qr e q n h ih = if_false qr _ _ q ∙ ih

-- FORWARD with one more branch
pub forward_more : (p q : Id → Bool) (s : Id) → Joins p s q → ((r : Id) → (same_id r s) ≡ true → p r ≡ false) → (es : List Entry) (m : Records) → OnTop s es → forward q es m ≡ sets (images_by s es) (forward p es m)
forward_more p q s j n [] m h = refl
forward_more p q s j n (Changed r k v ∷ es) m h = forward_step s r k v (images_by s es) (forward q es m) (forward p es m) (same_id r s) (p r) (q r) refl (j r) (n r) h.0 (forward_more p q s j n es m h.1)
forward_more p q s j n (Settled r c t ∷ es) m h = forward_more p q s j n es m h

backward_step : (s r : Id) (k : Key) (v : Option (List ℕ)) (is : List Image) (m : Records) (b pr qr : Bool) → (same_id r s) ≡ b → qr ≡ (if b then true else pr) → (b ≡ true → pr ≡ false) → (b ≡ false → touches k is ≡ false) →
    unsets is (if qr then set_key m k v else m) ≡ (if pr then set_key (unsets (if b then (k, v) ∷ is else is) m) k v else unsets (if b then (k, v) ∷ is else is) m)
backward_step s r k v is m true true qr e j n h = let no : ⊥ = (let t : true ≡ false = n refl in cc) in absurd no
backward_step s r k v is m true false qr e j n h = ap (unsets is) (if_true qr _ _ j)
backward_step s r k v is m false true qr e j n h = ap (unsets is) (if_true qr _ _ j) ∙ unsets_apart is m k v (h refl)
backward_step s r k v is m false false qr e j n h = ap (unsets is) (if_false qr _ _ j)

-- BACKWARD with one more branch
pub backward_more : (p q : Id → Bool) (s : Id) → Joins p s q → ((r : Id) → (same_id r s) ≡ true → p r ≡ false) → (es : List Entry) (m : Records) → OnTop s es → backward q es m ≡ backward p es (unsets (images_by s es) m)
backward_more p q s j n [] m h = refl
backward_more p q s j n (Changed r k v ∷ es) m h =
    backward_more p q s j n es (if q r then set_key m k v else m) h.1 ∙
    ap (backward p es) (backward_step s r k v (images_by s es) m (same_id r s) (p r) (q r) refl (j r) (n r) h.0)
backward_more p q s j n (Settled r c t ∷ es) m h = backward_more p q s j n es m h

-- where no branch passes
pub backward_none : (p : Id → Bool) → ((r : Id) → p r ≡ false) → (es : List Entry) (m : Records) → backward p es m ≡ m
backward_none p n [] m = refl
backward_none p n (Changed r k v ∷ es) m = ap (backward p es) (if_false (p r) _ _ (n r)) ∙ backward_none p n es m
backward_none p n (Settled r c t ∷ es) m = backward_none p n es m

-- the same branches
pub forward_same : (p q : Id → Bool) → ((r : Id) → p r ≡ q r) → (es : List Entry) (m : Records) → forward p es m ≡ forward q es m
forward_same p q h es m = ap (λ f. forward f es m) (λ i r. h r i)

pub backward_same : (p q : Id → Bool) → ((r : Id) → p r ≡ q r) → (es : List Entry) (m : Records) → backward p es m ≡ backward q es m
backward_same p q h es m = ap (λ f. backward f es m) (λ i r. h r i)
