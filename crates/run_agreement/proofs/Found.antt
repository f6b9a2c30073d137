-- Nodes by their names, and what the protocol has of them after one of them changed.
use Rattle.std.specs.Prelude.{if◌then◌else◌, option_map}
use Rattle.std.specs.Str.{bytes_eq}
use Rattle.std.proofs.Common.{◌≡◌, Bool, true, false, List, [], ◌∷◌, Option, Some, None, refl, ap, sym, subst, ◌∙◌, inl, inr}
use Rattle.std.proofs.lemmas.Bool.{both_ways, false_from_ne_true}
use Rattle.std.proofs.lemmas.Slice.Eq.{bytes_eq-Decides}
use Rattle.commit_protocol.specs.Messages.{Name, same_name}
use Rattle.commit_protocol.proofs.Lists.{same_name-refl, same_name-ne, cases_name}
use Rattle.run_model.specs.World.{Node, find_node, with_node}
use Rattle.run_agreement.specs.Seen.{Resolution, Face, IsFace, IsBarred, has_volume}
use Rattle.run_agreement.specs.Following.{Faces, AreFaces}
use Rattle.run_agreement.proofs.Faces.{put_face, put_here, put_there}

pub bytes_same : (a b : Name) → bytes_eq a b ≡ true → a ≡ b
bytes_same a b e = (bytes_eq-Decides a b).0 e

pub bytes_itself : (a b : Name) → a ≡ b → bytes_eq a b ≡ true
bytes_itself a b e = (bytes_eq-Decides a b).1 e

pub bytes_other : (a b : Name) → (a ≡ b → ⊥) → bytes_eq a b ≡ false
bytes_other a b ne = false_from_ne_true (bytes_eq a b) (λ e. ne (bytes_same a b e))

pub some_is : {A : Type 0} (x y : A) → Some x ≡ Some y → x ≡ y
some_is x y e = cc

pub name_found : (n : Name) (xs : List Node) (x : Node) → find_node n xs ≡ Some x → x.name ≡ n
name_found n [] x e = absurd cc
name_found n (y ∷ ys) x e = go (bytes_eq n y.name) refl (name_found n ys x) e
  where
    go : (b : Bool) → bytes_eq n y.name ≡ b → (find_node n ys ≡ Some x → x.name ≡ n) → (let o : Option Node = if b then Some y else find_node n ys in o) ≡ Some x → x.name ≡ n
    go true is more k = let same : y ≡ x = cc in sym (bytes_same n y.name is ∙ ap (λ (z : Node). z.name) same)
    go false is more k = more k

-- One node has become another of its name.

pub found_here : (n : Name) (z : Node) (xs : List Node) → z.name ≡ n → find_node n (with_node n (λ y. z) xs) ≡ option_map (λ y. z) (find_node n xs)
found_here n z [] named = refl
found_here n z (y ∷ ys) named = go (bytes_eq n y.name) refl (found_here n z ys named)
  where
    go : (b : Bool) → bytes_eq n y.name ≡ b → find_node n (with_node n (λ u. z) ys) ≡ option_map (λ u. z) (find_node n ys)
        → find_node n (if b then z ∷ ys else y ∷ with_node n (λ u. z) ys) ≡ option_map (λ u. z) (if b then Some y else find_node n ys)
    go true is more = rw (bytes_itself n z.name (sym named)) refl
    go false is more = rw is more

pub found_there : (m n : Name) (z : Node) (xs : List Node) → z.name ≡ n → (m ≡ n → ⊥) → find_node m (with_node n (λ y. z) xs) ≡ find_node m xs
found_there m n z [] named ne = refl
found_there m n z (y ∷ ys) named ne = go (bytes_eq n y.name) refl (found_there m n z ys named ne)
  where
    go : (b : Bool) → bytes_eq n y.name ≡ b → find_node m (with_node n (λ u. z) ys) ≡ find_node m ys
        → find_node m (if b then z ∷ ys else y ∷ with_node n (λ u. z) ys) ≡ find_node m (y ∷ ys)
    go true is more =
        let old : bytes_eq m y.name ≡ false = bytes_other m y.name (λ q. ne (q ∙ sym (bytes_same n y.name is))) in
        let new : bytes_eq m z.name ≡ false = bytes_other m z.name (λ q. ne (q ∙ named)) in
        rw (old, new) refl
    go false is more = ap (λ (o : Option Node). if bytes_eq m y.name then Some y else o) more

pub found_put : (n : Name) (z x : Node) (xs : List Node) → z.name ≡ n → find_node n xs ≡ Some x → find_node n (with_node n (λ y. z) xs) ≡ Some z
found_put n z x xs named found = found_here n z xs named ∙ ap (option_map (λ y. z)) found

-- another resolution of this node's act
abbrev pub resolve : Name → Bool → Resolution → Resolution
resolve n taken r m = if same_name m n then taken else r m

pub resolve_here : (n : Name) (taken : Bool) (r : Resolution) → resolve n taken r n ≡ taken
resolve_here n taken r = rw (same_name-refl n) refl

pub resolve_there : (n : Name) (taken : Bool) (r : Resolution) (m : Name) → (m ≡ n → ⊥) → resolve n taken r m ≡ r m
resolve_there n taken r m ne = rw (same_name-ne m n ne) refl

-- what the protocol has of the nodes after one of them became another, by which the resolution of its act is known
pub faces_put : (r : Resolution) (n : Name) (taken : Bool) (z x : Node) (xs : List Node) (fs : Faces) (g : Face) → AreFaces (resolve n taken r) xs fs → find_node n xs ≡ Some x → z.name ≡ n → has_volume z ≡ true → IsFace (r n) z g
    → AreFaces r (with_node n (λ y. z) xs) (put_face n g fs)
faces_put r n taken z x xs fs g are found named sound is = record {
  there = λ m y e v. elim (cases_name m n) [
    | inl same ↦
        let P : Name → Type 0 = λ k. find_node k (with_node n (λ u. z) xs) ≡ Some y in
        let here : z ≡ y = some_is z y (sym (found_put n z x xs named found) ∙ subst P same e) in
        let Q : Node → Type 0 = λ u. IsFace (r n) u g in
        let R : Name → Type 0 = λ k. (f : Face) × (put_face n g fs k ≡ Some f) × IsFace (r k) y f in
        subst R (sym same) (g, put_here n g fs, subst Q here is)
    | inr away ↦
        let old = are.there m y (sym (found_there m n z xs named away) ∙ e) v in
        let P : Bool → Type 0 = λ b. IsFace b y old.0 in
        (old.0, put_there n g fs m away ∙ old.1, subst P (resolve_there n taken r m away) old.2)
  ];
  without = λ m y e v. elim (cases_name m n) [
    | inl same ↦
        let P : Name → Type 0 = λ k. find_node k (with_node n (λ u. z) xs) ≡ Some y in
        let here : z ≡ y = some_is z y (sym (found_put n z x xs named found) ∙ subst P same e) in
        absurd (both_ways (has_volume y) v (sym (ap has_volume here) ∙ sound))
    | inr away ↦ let old = are.without m y (sym (found_there m n z xs named away) ∙ e) v in (put_there n g fs m away ∙ old.0, old.1)
  ];
  absent = λ m e. elim (cases_name m n) [
    | inl same ↦
        let P : Name → Type 0 = λ k. find_node k (with_node n (λ u. z) xs) ≡ None in
        let none : Some z ≡ None = sym (found_put n z x xs named found) ∙ subst P same e in
        absurd (let f : ⊥ = cc in f)
    | inr away ↦ put_there n g fs m away ∙ are.absent m (sym (found_there m n z xs named away) ∙ e)
  ];
}

-- a node of which the protocol has nothing has become another of that kind
pub faces_without : (r : Resolution) (n : Name) (z x : Node) (xs : List Node) (fs : Faces) → AreFaces r xs fs → find_node n xs ≡ Some x → has_volume x ≡ false → z.name ≡ n → has_volume z ≡ false → IsBarred z → AreFaces r (with_node n (λ y. z) xs) fs
faces_without r n z x xs fs are found unsound named still barred = record {
  there = λ m y e v. elim (cases_name m n) [
    | inl same ↦
        let P : Name → Type 0 = λ k. find_node k (with_node n (λ u. z) xs) ≡ Some y in
        let here : z ≡ y = some_is z y (sym (found_put n z x xs named found) ∙ subst P same e) in
        absurd (both_ways (has_volume y) (sym (ap has_volume here) ∙ still) v)
    | inr away ↦ are.there m y (sym (found_there m n z xs named away) ∙ e) v
  ];
  without = λ m y e v. elim (cases_name m n) [
    | inl same ↦
        let P : Name → Type 0 = λ k. find_node k (with_node n (λ u. z) xs) ≡ Some y in
        let here : z ≡ y = some_is z y (sym (found_put n z x xs named found) ∙ subst P same e) in
        let Q : Name → Type 0 = λ k. fs k ≡ None in
        (subst Q (sym same) (are.without n x found unsound).0, subst IsBarred here barred)
    | inr away ↦ are.without m y (sym (found_there m n z xs named away) ∙ e) v
  ];
  absent = λ m e. elim (cases_name m n) [
    | inl same ↦ let P : Name → Type 0 = λ k. fs k ≡ None in subst P (sym same) (are.without n x found unsound).0
    | inr away ↦ are.absent m (sym (found_there m n z xs named away) ∙ e)
  ];
}
