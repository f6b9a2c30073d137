-- What a look-up by a name finds.
use Rattle.std.specs.Prelude.{◌||◌, ◌&&◌, slice_get}
use Rattle.std.proofs.Common.{◌≡◌, ℕ, ◌-◌, List, [], ◌∷◌, ◌++◌, Bool, false, Option, Some, None, Result, Ok, Err, IsOk, OnOk, IfSome, IfNone, is_some, cond, map, length, take, replicate, position, Decides, refl, sym, ◌∙◌, ap, nat_eq, rules}
use Rattle.std.specs.Str.{bytes_eq}
use Rattle.std.specs.List.{list_any}
use Rattle.std.specs.Cmp.Lexicographic.{pointwise}
use Rattle.std.proofs.lemmas.Bool.{false≢true}
use Rattle.std.proofs.lemmas.Bool.Decides.{same_from_decides, Decides-and, Decides-eqb}
use Rattle.std.proofs.lemmas.List.{take_at}
use Rattle.std.proofs.lemmas.List.Quantifiers.{position-Some}
use Rattle.std.proofs.lemmas.Map.Made.{is_some-lookup}
use Rattle.std.proofs.lemmas.Option.{slice_get-get_or}
use Rattle.std.proofs.lemmas.Slice.Eq.{bytes_eq-Decides}
use Rattle.indexmap.specs.IndexMap.{ContainsKey, IndexMap, get, insert_entry, Updates}
use Rattle.indexmap.proofs.CallerLemmas.{insert_entry-new}
use Rattle.run_nodes.specs.Names.{is_among}

padded_decides : (n : ℕ) (x y : List ℕ) → Decides (pointwise nat_eq (x ++ replicate (n - length x) 0) (y ++ replicate (n - length y) 0) && nat_eq (length x) (length y)) (x ≡ y)
padded_decides n x y = (λ same. to (both.0 same), λ same. both.1 (from same))
  where
    both : Decides (pointwise nat_eq (x ++ replicate (n - length x) 0) (y ++ replicate (n - length y) 0) && nat_eq (length x) (length y))
        ((x ++ replicate (n - length x) 0 ≡ y ++ replicate (n - length y) 0) × (length x ≡ length y))
    both = Decides-and _ _ (bytes_eq-Decides (x ++ replicate (n - length x) 0) (y ++ replicate (n - length y) 0)) (Decides-eqb (length x) (length y))

    to : (x ++ replicate (n - length x) 0 ≡ y ++ replicate (n - length y) 0) × (length x ≡ length y) → x ≡ y
    to h = sym (take_at x _ (length x) refl) ∙ ap (take (length x)) h.0 ∙ ap (λ (k : ℕ). take k (y ++ replicate (n - length y) 0)) h.1 ∙ take_at y _ (length y) refl

    from : x ≡ y → (x ++ replicate (n - length x) 0 ≡ y ++ replicate (n - length y) 0) × (length x ≡ length y)
    from same = (ap (λ (z : List ℕ). z ++ replicate (n - length z) 0) same, ap length same)

-- two names of nodes are equal where their bytes are
pub same_name : (x y : List ℕ) → (pointwise nat_eq (x ++ replicate (8 - length x) 0) (y ++ replicate (8 - length y) 0) && nat_eq (length x) (length y)) ≡ bytes_eq x y
same_name x y = same_from_decides _ _ (padded_decides 8 x y) (bytes_eq-Decides x y)

bytes_eq_turned : (x y : List ℕ) → bytes_eq x y ≡ bytes_eq y x
bytes_eq_turned x y = let d = bytes_eq-Decides y x in same_from_decides _ _ (bytes_eq-Decides x y) (λ h. sym (d.0 h), λ h. d.1 (sym h))

any_same : (p q : List ℕ → Bool) → ((x : List ℕ) → p x ≡ q x) → (xs : List (List ℕ)) → list_any p xs ≡ list_any q xs
any_same p q h [] = refl
any_same p q h (x ∷ xs) = ap (λ b. b || list_any p xs) (h x) ∙ ap (λ b. q x || b) (any_same p q h xs)

no_value : {A : Type 0} (o : Option A) → is_some o ≡ false → o ≡ None
no_value None e = refl
no_value (Some x) e = absurd (false≢true (sym e))

-- a call that is Ok
pub of_ok : {T E P : Type 0} (r : Result T E) → IsOk r → OnOk r P → P
of_ok (Ok x) ok h = h
of_ok (Err e) ok h = absurd (false≢true ok)

module _ {D S : Type 0} (eq : List ℕ → List ℕ → Bool) (same : (x y : List ℕ) → eq x y ≡ bytes_eq x y) where
  pub found_among : (nodes : IndexMap (List ℕ) D S) (name : List ℕ) → is_some (get eq nodes name) ≡ is_among name (map (λ node. node.0) nodes.entries)
  found_among nodes name = is_some-lookup (eq name) nodes.entries ∙ any_same (eq name) (λ other. bytes_eq other name) (λ x. same name x ∙ bytes_eq_turned name x) (map (λ node. node.0) nodes.entries)

  -- of a name that is not among them there is no node
  pub none_there : (nodes : IndexMap (List ℕ) D S) (name : List ℕ) → is_among name (map (λ node. node.0) nodes.entries) ≡ false → get eq nodes name ≡ None
  none_there nodes name none = no_value (get eq nodes name) (found_among nodes name ∙ none)

  -- so no key is it
  pub not_there : (nodes : IndexMap (List ℕ) D S) (name : List ℕ) → is_among name (map (λ node. node.0) nodes.entries) ≡ false → ContainsKey eq nodes name → ⊥
  not_there nodes name none there = let gone = none_there nodes name none in search rules

  -- a new node goes last
  pub put_last : (old : IndexMap (List ℕ) D S) (entries : List (List ℕ × D)) (name : List ℕ) (disk : D) → is_among name (map (λ node. node.0) old.entries) ≡ false → entries ≡ insert_entry eq old.entries name disk →
      entries ≡ old.entries ++ (name, disk) ∷ []
  put_last old entries name disk none put = put ∙ insert_entry-new eq old name disk (none_there old name none)

  -- a node that was taken out is there no more
  pub gone : (old new : IndexMap (List ℕ) D S) (taken : Option (List ℕ × D)) → IfSome taken (λ node. Updates eq old new node.0 None) → IfSome taken (λ node. is_among node.0 (map (λ other. other.0) new.entries) ≡ false)
  gone old new None h = h
  gone old new (Some node) h =
      sym (found_among new node.0) ∙ ap is_some (h.0 node.0 ∙ ap (λ (b : Bool). cond b None (get eq old node.0)) (same node.0 node.0 ∙ (bytes_eq-Decides node.0 node.0).1 refl))

-- the place of a name
pub place_there : (eq : List ℕ → List ℕ → Bool) → ((x y : List ℕ) → eq x y ≡ bytes_eq x y) → (names : List (List ℕ)) (name : List ℕ) (r : Option ℕ) → r ≡ position (eq name) names → IfSome r (λ place. slice_get names place ≡ Some name)
place_there eq same names name None e = tt
place_there eq same names name (Some i) e =
    let p = position-Some (eq name) names i [] (sym e) in
    slice_get-get_or names i [] p.0 ∙ ap (λ x. Some x) (sym ((bytes_eq-Decides name _).0 (sym (same name _) ∙ p.1)))

pub place_missing : (r : Option ℕ) (found : Bool) → is_some r ≡ found → IfNone r (found ≡ false)
place_missing None found e = sym e
place_missing (Some i) found e = tt
