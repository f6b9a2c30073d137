-- Nodes that are taken out of a rack one after another, and their disks that are put back.
use Rattle.std.specs.Prelude.{◌||◌, slice_get, slice_set}
use Rattle.std.proofs.Common.{◌≡◌, ℕ, zero, suc, ◌+◌, ◌<◌, ◌≤◌, List, [], ◌∷◌, ◌++◌, map, take, drop, length, false, Option, Some, None, IsSome, refl, sym, ◌∙◌, ap, subst, add-one, arith}
use Rattle.std.specs.Str.{bytes_eq}
use Rattle.block_disk.specs.Disk.{DiskState}
use Rattle.recovery_units.specs.State.{UnitsState}
use Rattle.run_laws.specs.run_said.Said.{nothing_said}
use Rattle.day_run.specs.run_shared.Sharing.{SharedState}
use Rattle.world_laws.proofs.run_model.NodeLists.{some_is}
use Rattle.day_run.specs.dtm_node.Nodes.{IsNode, kept_of}
use Rattle.day_run.specs.node_standing.Standing.{NodeState, disk_in}
use Rattle.day_run.specs.node_standing.Telling.{said_node}
use Rattle.day_run.specs.dtm_node.declared.node.Node.{Node}
use Rattle.day_run.specs.run_nodes.Held.{AreNodesIn}
use Rattle.day_run.specs.run_nodes.Names.{AreApart, is_among}
use Rattle.day_run.specs.run_nodes.Together.{disks_of, said_together}
use Rattle.day_run.proofs.run_nodes.Entries.{kept_in, names_in}
use Rattle.day_run.proofs.run_nodes.Places.{either_false, turned}
use Rattle.dtm_run.specs.Taking.{AreAtZero, AreNew, new_kept}

-- Lists.

-- the next of a list of which so many were taken
pub record IsNext {A : Type 0} (xs : List A) (n : ℕ) (x : A) (ys : List A) : Type 0 where
  pub at : slice_get xs n ≡ Some x
  pub left : ys ≡ drop (n + 1) xs
  pub taken : take (n + 1) xs ≡ take n xs ++ x ∷ []

-- one more is taken, or left out
take_more : {A : Type 0} (xs : List A) (n : ℕ) (x : A) → slice_get xs n ≡ Some x → take (suc n) xs ≡ take n xs ++ x ∷ []
take_more [] n x e = let none : ⊥ = cc in absurd none
take_more (y ∷ xs) zero x e = ap (λ z. z ∷ []) (some_is y x e)
take_more (y ∷ xs) (suc n) x e = ap (λ ys. y ∷ ys) (take_more xs n x e)

pub take_next : {A : Type 0} (xs : List A) (n : ℕ) (x : A) → slice_get xs n ≡ Some x → take (n + 1) xs ≡ take n xs ++ x ∷ []
take_next xs n x e = ap (λ m. take m xs) (add-one n) ∙ take_more xs n x e

drop_first : {A : Type 0} (xs : List A) (n : ℕ) (x : A) (ys : List A) → drop n xs ≡ x ∷ ys → (slice_get xs n ≡ Some x) × (ys ≡ drop (suc n) xs)
drop_first {A} [] zero x ys e = let none : ⊥ = cc in absurd none
drop_first {A} [] (suc n) x ys e = let none : ⊥ = cc in absurd none
drop_first {A} (z ∷ xs) zero x ys e = (ap (λ (l : List A). slice_get l 0) e, sym (ap (λ (l : List A). elim l [ [] ↦ [] | y ∷ more ↦ more ]) e))
drop_first {A} (z ∷ xs) (suc n) x ys e = drop_first xs n x ys e

pub next_out : {A : Type 0} (xs : List A) (n : ℕ) (x : A) (ys : List A) → drop n xs ≡ x ∷ ys → IsNext xs n x ys
next_out xs n x ys e =
    let r = drop_first xs n x ys e in
    record { at = r.0; left = r.1 ∙ ap (λ m. drop m xs) (sym (add-one n)); taken = take_next xs n x r.0 }

pub take_map : {A B : Type 0} (f : A → B) (n : ℕ) (xs : List A) → take n (map f xs) ≡ map f (take n xs)
take_map f zero xs = refl
take_map f (suc n) [] = refl
take_map f (suc n) (x ∷ xs) = ap (λ ys. f x ∷ ys) (take_map f n xs)

pub take_all : {A : Type 0} (n : ℕ) (xs : List A) → length xs ≤ n → take n xs ≡ xs
take_all zero [] h = refl
take_all zero (x ∷ xs) h = absurd (omega arith)
take_all (suc n) [] h = refl
take_all (suc n) (x ∷ xs) h = ap (λ ys. x ∷ ys) (take_all n xs (omega arith))

pub drop_all : {A : Type 0} (n : ℕ) (xs : List A) → length xs ≤ n → drop n xs ≡ []
drop_all zero [] h = refl
drop_all zero (x ∷ xs) h = absurd (omega arith)
drop_all (suc n) [] h = refl
drop_all (suc n) (x ∷ xs) h = drop_all n xs (omega arith)

pub drop_some : {A : Type 0} (n : ℕ) (xs : List A) → n < length xs → 0 < length (drop n xs)
drop_some zero [] h = absurd (omega arith)
drop_some zero (x ∷ xs) h = omega arith
drop_some (suc n) [] h = absurd (omega arith)
drop_some (suc n) (x ∷ xs) h = drop_some n xs (omega arith)

-- what was taken, and where it goes
abbrev pub pair_of : {A B : Type 0} → A → B → A × B
pair_of a b = (a, b)

pub none_some : {A : Type 0} (o : Option A) → o ≡ None → IsSome o → ⊥
none_some None e h = let none : ⊥ = cc in none
none_some (Some x) e h = let none : ⊥ = cc in none

-- One of a list is set.

pub length_set : {A : Type 0} (xs : List A) (n : ℕ) (x : A) → length (slice_set xs n x) ≡ length xs
length_set [] n x = refl
length_set (y ∷ xs) zero x = refl
length_set (y ∷ xs) (suc n) x = ap suc (length_set xs n x)

set_more : {A : Type 0} (xs : List A) (n : ℕ) (x : A) → n < length xs → take (suc n) (slice_set xs n x) ≡ take n xs ++ x ∷ []
set_more [] n x h = absurd (omega arith)
set_more (y ∷ xs) zero x h = refl
set_more (y ∷ xs) (suc n) x h = ap (λ ys. y ∷ ys) (set_more xs n x (omega arith))

pub take_set : {A : Type 0} (xs : List A) (n : ℕ) (x : A) → n < length xs → take (n + 1) (slice_set xs n x) ≡ take n xs ++ x ∷ []
take_set xs n x h = ap (λ m. take m (slice_set xs n x)) (add-one n) ∙ set_more xs n x h

pub there_some : {A : Type 0} (xs : List A) (n : ℕ) → n < length xs → slice_get xs n ≡ None → ⊥
there_some [] n h e = omega arith
there_some (y ∷ xs) zero h e = let none : ⊥ = cc in none
there_some (y ∷ xs) (suc n) h e = there_some xs n (omega arith) e

-- Names.

among_not : (name : List ℕ) (names : List (List ℕ)) (n : ℕ) (other : List ℕ) → is_among name names ≡ false → slice_get names n ≡ Some other → bytes_eq other name ≡ false
among_not name [] n other e f = let none : ⊥ = cc in absurd none
among_not name (x ∷ names) zero other e f = subst (λ y. bytes_eq y name ≡ false) (some_is x other f) (either_false (bytes_eq x name) (is_among name names) e).0
among_not name (x ∷ names) (suc n) other e f = among_not name names n other (either_false (bytes_eq x name) (is_among name names) e).1 f

-- a name stands among none of those before it
pub not_before : (names : List (List ℕ)) (n : ℕ) (name : List ℕ) → AreApart names → slice_get names n ≡ Some name → is_among name (take n names) ≡ false
not_before [] n name h e = let none : ⊥ = cc in absurd none
not_before (x ∷ names) zero name h e = refl
not_before (x ∷ names) (suc n) name h e =
    let no = turned name x (among_not x names n name h.0 e) in
    ap (λ b. b || is_among name (take n names)) no ∙ not_before names n name h.1 e

-- New nodes.

module _ {D U : Type 0} (state : D → DiskState) (units : U → UnitsState) where
  pub new_more : (ps : List (List ℕ × D)) (es : List (List ℕ × Node D U)) (p : List ℕ × D) (e : List ℕ × Node D U) → AreNew state units ps es → e.0 ≡ p.0 → kept_of state units e.1 ≡ new_kept p.0 (state p.1) → ((s : SharedState) → IsNode state units 0 s e.1) → AreNew state units (ps ++ p ∷ []) (es ++ e ∷ [])
  new_more [] [] p e h named kept node = (named, kept, node, tt)
  new_more [] (x ∷ es) p e h named kept node = absurd h
  new_more (q ∷ ps) [] p e h named kept node = absurd h
  new_more (q ∷ ps) (x ∷ es) p e h named kept node = (h.0, h.1, h.2, new_more ps es p e h.3 named kept node)

  pub new_names : (ps : List (List ℕ × D)) (es : List (List ℕ × Node D U)) → AreNew state units ps es → names_in state units es ≡ map (λ p. p.0) ps
  new_names [] [] h = refl
  new_names [] (e ∷ es) h = absurd h
  new_names (p ∷ ps) [] h = absurd h
  new_names (p ∷ ps) (e ∷ es) h = λ i. h.0 i ∷ new_names ps es h.3 i

  pub new_disks : (ps : List (List ℕ × D)) (es : List (List ℕ × Node D U)) → AreNew state units ps es → disks_of (kept_in state units es) ≡ map (λ p. state p.1) ps
  new_disks [] [] h = refl
  new_disks [] (e ∷ es) h = absurd h
  new_disks (p ∷ ps) [] h = absurd h
  new_disks (p ∷ ps) (e ∷ es) h = λ i. disk_in (h.1 i).place ∷ new_disks ps es h.3 i

  new_said : (ps : List (List ℕ × D)) (es : List (List ℕ × Node D U)) → AreNew state units ps es → map said_node (kept_in state units es) ≡ (nothing_said (names_in state units es)).nodes
  new_said [] [] h = refl
  new_said [] (e ∷ es) h = absurd h
  new_said (p ∷ ps) [] h = absurd h
  new_said (p ∷ ps) (e ∷ es) h =
      let one : said_node (kept_of state units e.1) ≡ record { name = e.0; up = false; unmade = false } = ap said_node h.1 ∙ ap (λ (n : List ℕ). record { name = n; up = false; unmade = false }) (sym h.0) in
      λ i. one i ∷ new_said ps es h.3 i

  -- what nodes share before the first line
  pub new_unsaid : (ps : List (List ℕ × D)) (es : List (List ℕ × Node D U)) (s : SharedState) → AreNew state units ps es → s ≡ record { labels = []; in_use = false; wire = [] } → said_together (kept_in state units es) s ≡ nothing_said (names_in state units es)
  new_unsaid ps es s h e = ap (said_together (kept_in state units es)) e ∙ (λ i. record { nodes = new_said ps es h i; shared = record { labels = []; in_use = false; wire = [] } })

  pub new_zero : (ps : List (List ℕ × D)) (es : List (List ℕ × Node D U)) → AreNew state units ps es → AreAtZero (kept_in state units es)
  new_zero [] [] h = tt
  new_zero [] (e ∷ es) h = absurd h
  new_zero (p ∷ ps) [] h = absurd h
  new_zero (p ∷ ps) (e ∷ es) h = (ap (λ (k : NodeState). k.clock) h.1, new_zero ps es h.3)

  pub new_nodes : (ps : List (List ℕ × D)) (es : List (List ℕ × Node D U)) (s : SharedState) → AreNew state units ps es → AreNodesIn state units 0 s es
  new_nodes [] [] s h = tt
  new_nodes [] (e ∷ es) s h = absurd h
  new_nodes (p ∷ ps) [] s h = absurd h
  new_nodes (p ∷ ps) (e ∷ es) s h = (ap (λ (k : NodeState). k.name) h.1 ∙ sym h.0, h.2 s, new_nodes ps es s h.3)
