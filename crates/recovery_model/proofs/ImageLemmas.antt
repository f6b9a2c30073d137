-- Changes that are applied and found, and images that are moved past each other.
use Rattle.unit_laws.specs.vms_model.Keys.{Key}
use Rattle.unit_laws.specs.records_model.Records.{Records, Change, set_key, applied, Found}
use Rattle.unit_laws.specs.records_model.History.{changes_key}
use Rattle.unit_laws.proofs.records_model.KeyLemmas.{key_cmp_total}
use Rattle.unit_laws.proofs.records_model.RecordsLemmas.{get-set_key, same_key, alike}
use Rattle.recovery_model.specs.Images.{Image, afters, befores, touches}
use Rattle.recovery_model.proofs.Images.{same, changes, sets, unsets}
use Rattle.std.proofs.Common.{◌≡◌, ℕ, List, [], ◌∷◌, Bool, true, false, Option, refl, sym, ◌∙◌, cond, ap}
use Rattle.std.specs.Prelude.{if◌then◌else◌, ◌||◌}
use Rattle.std.specs.FinMap.{get}
use Rattle.std.specs.Ordering.{is_eq}
use Rattle.std.proofs.lemmas.Cmp.{tied_itself}

-- whether a key was changed, in the words of recovery units
either : (a b : Bool) → (if a then true else b) ≡ (a || b)
either true b = refl
either false b = refl

pub changes-key : (k : Key) (cs : List Change) → changes k cs ≡ changes_key k cs
changes-key k [] = refl
changes-key k (c ∷ cs) = ap (λ x. if same k c.key then true else x) (changes-key k cs) ∙ either (same k c.key) (changes_key k cs)

swap_at : (k j q : Key) (v w x : Option (List ℕ)) (a b : Bool) → same q k ≡ a → same q j ≡ b → same k j ≡ false → cond a v (cond b w x) ≡ cond b w (cond a v x)
swap_at k j q v w x true true e f h =
    let p : q ≡ k = same_key q k e in
    let t : same k j ≡ true = rw (← p) f in
    let no : ⊥ = cc in absurd no
swap_at k j q v w x true false e f h = refl
swap_at k j q v w x false true e f h = refl
swap_at k j q v w x false false e f h = refl

-- two keys set in either order
pub set_apart : (m : Records) (k j : Key) (v w : Option (List ℕ)) → same k j ≡ false → set_key (set_key m j w) k v ≡ set_key (set_key m k v) j w
set_apart m k j v w h = alike _ _ (λ q.
    get-set_key (set_key m j w) k q v ∙ ap (cond (same q k) v) (get-set_key m j q w) ∙
    swap_at k j q v w (get m q) (same q k) (same q j) refl refl h ∙
    sym (get-set_key (set_key m k v) j q w ∙ ap (cond (same q j) w) (get-set_key m k q v)))

-- an image that no other touches
first_false : (a b : Bool) → (if a then true else b) ≡ false → (a ≡ false) × (b ≡ false)
first_false true b e = let no : ⊥ = cc in absurd no
first_false false b e = (refl, e)

pub touches-rest : (k : Key) (i : Image) (is : List Image) → touches k (i ∷ is) ≡ false → (same k i.0 ≡ false) × (touches k is ≡ false)
touches-rest k i is e = first_false (same k i.0) (touches k is) e

-- a key that the images do not touch may be set before them or after
pub sets_apart : (is : List Image) (m : Records) (k : Key) (v : Option (List ℕ)) → touches k is ≡ false → sets is (set_key m k v) ≡ set_key (sets is m) k v
sets_apart [] m k v h = refl
sets_apart (i ∷ is) m k v h =
    let t = touches-rest k i is h in
    ap (λ x. set_key x i.0 i.1) (sets_apart is m k v t.1) ∙ sym (set_apart (sets is m) k i.0 v i.1 t.0)

pub applied-sets : (cs : List Change) (m : Records) → applied cs m ≡ sets (afters cs) m
applied-sets [] m = refl
applied-sets (c ∷ cs) m = ap (λ x. set_key x c.key c.after) (applied-sets cs m)

pub applied_apart : (cs : List Change) (m : Records) (k : Key) (v : Option (List ℕ)) → changes k cs ≡ false → applied cs (set_key m k v) ≡ set_key (applied cs m) k v
applied_apart cs m k v h = applied-sets cs (set_key m k v) ∙ sets_apart (afters cs) m k v h ∙ ap (λ x. set_key x k v) (sym (applied-sets cs m))

pub touches-befores : (k : Key) (cs : List Change) → touches k (befores cs) ≡ changes k cs
touches-befores k [] = refl
touches-befores k (c ∷ cs) = ap (λ x. if same k c.key then true else x) (touches-befores k cs)

-- a key that the images do not touch keeps its record
get_apart : (k q : Key) (v x : Option (List ℕ)) (b : Bool) → b ≡ false → cond b v x ≡ x
get_apart k q v x true e = let no : ⊥ = cc in absurd no
get_apart k q v x false e = refl

pub get-sets : (is : List Image) (m : Records) (q : Key) → touches q is ≡ false → get (sets is m) q ≡ get m q
get-sets [] m q h = refl
get-sets (i ∷ is) m q h =
    let t = touches-rest q i is h in
    get-set_key (sets is m) i.0 q i.1 ∙ get_apart i.0 q i.1 (get (sets is m) q) (same q i.0) t.0 ∙ get-sets is m q t.1

pub get-applied : (cs : List Change) (m : Records) (q : Key) → changes q cs ≡ false → get (applied cs m) q ≡ get m q
get-applied cs m q h = ap (λ x. get x q) (applied-sets cs m) ∙ get-sets (afters cs) m q h

by_turns : (q k : Key) (b : Bool) → same k q ≡ b → same q k ≡ false → b ≡ false
by_turns q k true e h =
    let p : k ≡ q = same_key k q e in
    let t : same q k ≡ true = rw (← p) (rw (← p) at e) in
    let no : ⊥ = cc in absurd no
by_turns q k false e h = refl

pub same-turned : (q k : Key) → same q k ≡ false → same k q ≡ false
same-turned q k h = by_turns q k (same k q) refl h

pub get-set_apart : (m : Records) (k q : Key) (v : Option (List ℕ)) → same k q ≡ false → get (set_key m k v) q ≡ get m q
get-set_apart m k q v h = get-set_key m k q v ∙ get_apart k q v (get m q) (same q k) (same-turned k q h)

-- what is found does not see a key that is set elsewhere
pub found_apart : (cs : List Change) (m : Records) (k : Key) (v : Option (List ℕ)) → changes k cs ≡ false → Found cs m → Found cs (set_key m k v)
found_apart [] m k v h f = tt
found_apart (c ∷ cs) m k v h f =
    let t = touches-rest k (c.key, c.after) (afters cs) h in
    (f.0 ∙ sym (ap (λ x. get x c.key) (applied_apart cs m k v t.1) ∙ get-set_apart (applied cs m) k c.key v t.0), found_apart cs m k v t.1 f.1)

first_true : (a b : Bool) → a ≡ true → (if a then true else b) ≡ true
first_true true b e = refl
first_true false b e = let no : ⊥ = cc in absurd no

rest_true : (a b : Bool) → b ≡ true → (if a then true else b) ≡ true
rest_true true b e = refl
rest_true false b e = e

pub same_self : (k : Key) → same k k ≡ true
same_self k = ap is_eq (tied_itself key_cmp_total k)

-- nor changes of other keys
pub found_beside : (ds cs : List Change) (m : Records) → ((k : Key) → changes k ds ≡ true → changes k cs ≡ false) → Found cs m → Found cs (applied ds m)
found_beside [] cs m h f = f
found_beside (d ∷ ds) cs m h f =
    found_apart cs (applied ds m) d.key d.after (h d.key (first_true (same d.key d.key) (changes d.key ds) (same_self d.key)))
    (found_beside ds cs m (λ k t. h k (rest_true (same k d.key) (changes k ds) t)) f)

-- images that are set from the newest on
pub unsets_apart : (is : List Image) (m : Records) (k : Key) (v : Option (List ℕ)) → touches k is ≡ false → unsets is (set_key m k v) ≡ set_key (unsets is m) k v
unsets_apart [] m k v h = refl
unsets_apart (i ∷ is) m k v h =
    let t = touches-rest k i is h in
    ap (unsets is) (sym (set_apart m k i.0 v i.1 t.0)) ∙ unsets_apart is (set_key m i.0 i.1) k v t.1

-- changes of other keys, past changes and past images
pub applied_beside : (ds cs : List Change) (m : Records) → ((k : Key) → changes k ds ≡ true → changes k cs ≡ false) → applied cs (applied ds m) ≡ applied ds (applied cs m)
applied_beside [] cs m h = refl
applied_beside (d ∷ ds) cs m h =
    applied_apart cs (applied ds m) d.key d.after (h d.key (first_true (same d.key d.key) (changes d.key ds) (same_self d.key))) ∙
    ap (λ x. set_key x d.key d.after) (applied_beside ds cs m (λ k t. h k (rest_true (same k d.key) (changes k ds) t)))

pub unsets_beside : (ds : List Change) (is : List Image) (m : Records) → ((k : Key) → changes k ds ≡ true → touches k is ≡ false) → unsets is (applied ds m) ≡ applied ds (unsets is m)
unsets_beside [] is m h = refl
unsets_beside (d ∷ ds) is m h =
    unsets_apart is (applied ds m) d.key d.after (h d.key (first_true (same d.key d.key) (changes d.key ds) (same_self d.key))) ∙
    ap (λ x. set_key x d.key d.after) (unsets_beside ds is m (λ k t. h k (rest_true (same k d.key) (changes k ds) t)))
