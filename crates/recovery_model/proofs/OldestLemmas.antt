-- Images by their newest and their oldest: how the entries of a file that a run finds are tied to its unsettled branches.
use Rattle.std.proofs.Common.{◌≡◌, ℕ, List, [], ◌∷◌, Bool, true, false, Option, None, refl, sym, ◌∙◌, cond, ap}
use Rattle.std.specs.Prelude.{if◌then◌else◌}
use Rattle.std.specs.FinMap.{get}
use Rattle.unit_laws.specs.vms_model.Keys.{Key}
use Rattle.unit_laws.specs.records_model.Records.{Records, Change, set_key, applied}
use Rattle.unit_laws.proofs.records_model.RecordsLemmas.{get-set_key, alike}
use Rattle.recovery_model.specs.Images.{newest, Image, afters, touches}
use Rattle.recovery_model.proofs.Images.{same, changes, sets, unsets}
use Rattle.recovery_model.proofs.ImageLemmas.{get-applied, applied-sets}

-- the value that the oldest image of a key has
abbrev pub oldest : Key → List Image → Option (List ℕ)
oldest q [] = None
oldest q (i ∷ is) = if touches q is then oldest q is else i.1

newest_at : (a : Bool) (b : Bool) (v w x : Option (List ℕ)) → cond a v (if b then w else x) ≡ (if (if a then true else b) then (if a then v else w) else x)
newest_at true b v w x = refl
newest_at false b v w x = refl

pub get-sets_newest : (is : List Image) (m : Records) (q : Key) → get (sets is m) q ≡ (if touches q is then newest q is else get m q)
get-sets_newest [] m q = refl
get-sets_newest (i ∷ is) m q = get-set_key (sets is m) i.0 q i.1 ∙ ap (cond (same q i.0) i.1) (get-sets_newest is m q) ∙ newest_at (same q i.0) (touches q is) i.1 (newest q is) (get m q)

oldest_at : (a : Bool) (b : Bool) (v w x : Option (List ℕ)) → (if b then w else cond a v x) ≡ (if (if a then true else b) then (if b then w else v) else x)
oldest_at true true v w x = refl
oldest_at true false v w x = refl
oldest_at false true v w x = refl
oldest_at false false v w x = refl

pub get-unsets_oldest : (is : List Image) (m : Records) (q : Key) → get (unsets is m) q ≡ (if touches q is then oldest q is else get m q)
get-unsets_oldest [] m q = refl
get-unsets_oldest (i ∷ is) m q =
    get-unsets_oldest is (set_key m i.0 i.1) q ∙ ap (λ x. if touches q is then oldest q is else x) (get-set_key m i.0 q i.1) ∙
    oldest_at (same q i.0) (touches q is) i.1 (oldest q is) (get m q)

pick_same : (a b : Bool) (v w x : Option (List ℕ)) → a ≡ b → (a ≡ true → v ≡ w) → (if a then v else x) ≡ (if b then w else x)
pick_same true true v w x e h = h refl
pick_same true false v w x e h = let no : ⊥ = cc in absurd no
pick_same false true v w x e h = let no : ⊥ = cc in absurd no
pick_same false false v w x e h = refl

-- images with the same newest ones do what the changes do
pub forward_tie : (is : List Image) (cs : List Change) (m : Records) → ((q : Key) → touches q is ≡ changes q cs) → ((q : Key) → touches q is ≡ true → newest q is ≡ newest q (afters cs)) → sets is m ≡ applied cs m
forward_tie is cs m same_keys same_values =
    alike _ _ (λ q. get-sets_newest is m q ∙ pick_same (touches q is) (changes q cs) (newest q is) (newest q (afters cs)) (get m q) (same_keys q) (same_values q) ∙ sym (get-sets_newest (afters cs) m q)) ∙ sym (applied-sets cs m)

pick_total : (a : Bool) (v x y : Option (List ℕ)) → (a ≡ true → v ≡ y) → (a ≡ false → x ≡ y) → (if a then v else x) ≡ y
pick_total true v x y h k = h refl
pick_total false v x y h k = k refl

-- images whose oldest are the settled records take the changes back
pub backward_tie : (is : List Image) (cs : List Change) (total : Records) → ((q : Key) → touches q is ≡ changes q cs) → ((q : Key) → touches q is ≡ true → oldest q is ≡ get total q) → unsets is (applied cs total) ≡ total
backward_tie is cs total same_keys first =
    alike _ _ (λ q. get-unsets_oldest is (applied cs total) q ∙
    pick_total (touches q is) (oldest q is) (get (applied cs total) q) (get total q) (first q) (λ e. get-applied cs total q (sym (same_keys q) ∙ e)))
