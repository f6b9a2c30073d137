-- Which branches stand in a table, and after an act of it.
use Rattle.std.proofs.Common.{◌≡◌, ◌⊎◌, ◌≤◌, suc, List, [], ◌∷◌, length, Bool, true, false, Option, Some, None, if◌then◌else◌, refl, sym, ◌∙◌, ap, subst, arith, inl, inr}
use Rattle.std.proofs.lemmas.Bool.{both_ways}
use Rattle.vms_model.specs.Ids.{Id}
use Rattle.run_model.specs.records_model.History.{same_id}
use Rattle.run_model.specs.commit_protocol.Table.{Branch, Key, branch_serials, cut, find, put, same_key}
use Rattle.run_model.specs.commit_protocol.Standing.{IsThere}
use Rattle.run_model.specs.commit_protocol.Agreement.{Distinct}
use Rattle.run_model.specs.commit_protocol.World.{In}
use Rattle.run_model.proofs.commit_protocol.Lists.{told_key}
use Rattle.run_model.specs.World.{serials_of, with_changed}
use Rattle.world_laws.proofs.IdLemmas.{id_is, id_itself}
use Rattle.world_laws.proofs.FindLemmas.{some_is}

-- the serials are told in one way
pub same_serials : (bs : List Branch) → serials_of bs ≡ branch_serials bs
same_serials [] = refl
same_serials (b ∷ bs) = ap (λ xs. b.key.serial ∷ xs) (same_serials bs)

pub in_serials : (b : Branch) (bs : List Branch) → In b bs → In b.key.serial (branch_serials bs)
in_serials b [] i = i
in_serials b (c ∷ bs) i = elim i [ inl e ↦ inl (ap (λ (x : Branch). x.key.serial) e) | inr more ↦ inr (in_serials b bs more) ]

-- the branch of a serial
pub record HasSerial (bs : List Branch) (x : Id) : Type 0 where
  pub branch : Branch
  pub there : In branch bs
  pub serial : branch.key.serial ≡ x

pub of_serial : (x : Id) (bs : List Branch) → In x (branch_serials bs) → HasSerial bs x
of_serial x [] i = absurd i
of_serial x (b ∷ bs) i = elim i [
  | inl e ↦ record { branch = b; there = inl refl; serial = sym e }
  | inr more ↦ let r = of_serial x bs more in record { branch = r.branch; there = inr r.there; serial = r.serial }
]

-- of one serial there is one branch
pub one_branch : (bs : List Branch) (a b : Branch) → Distinct (branch_serials bs) → In a bs → In b bs → a.key.serial ≡ b.key.serial → a ≡ b
one_branch [] a b d i j e = absurd i
one_branch (c ∷ bs) a b d i j e = elim i [
  | inl p ↦ elim j [
    | inl q ↦ p ∙ sym q
    | inr q ↦ absurd (d.0 (subst (λ x. In x (branch_serials bs)) (sym e ∙ ap (λ (x : Branch). x.key.serial) p) (in_serials b bs q)))
  ]
  | inr p ↦ elim j [
    | inl q ↦ absurd (d.0 (subst (λ x. In x (branch_serials bs)) (e ∙ ap (λ (x : Branch). x.key.serial) q) (in_serials a bs p)))
    | inr q ↦ one_branch bs a b d.1 p q e
  ]
]

pub found_in : (k : Key) (bs : List Branch) (b : Branch) → find k bs ≡ Some b → In b bs
found_in k [] b e = let none : ⊥ = cc in absurd none
found_in k (c ∷ bs) b e = go (same_key c.key k) e (found_in k bs b)
  where
    go : (t : Bool) → ◌≡◌ {A = Option Branch} (if t then Some c else find k bs) (Some b) → (find k bs ≡ Some b → In b bs) → In b (c ∷ bs)
    go true f more = inl (sym (some_is c b f))
    go false f more = inr (more f)

-- of another key, a branch is of another serial
pub serials_apart : (bs : List Branch) (a b : Branch) → Distinct (branch_serials bs) → In a bs → In b bs → (a.key ≡ b.key → ⊥) → a.key.serial ≡ b.key.serial → ⊥
serials_apart bs a b d i j other e = other (ap (λ (x : Branch). x.key) (one_branch bs a b d i j e))

-- A branch that takes the place of the one with its key.

pub in_put : (b x : Branch) (bs : List Branch) → Distinct (branch_serials bs) → In x (put b bs) → (x ≡ b) ⊎ (In x bs × (x.key ≡ b.key → ⊥))
in_put b x [] d i = elim i [ inl e ↦ inl e | inr none ↦ absurd none ]
in_put b x (y ∷ ys) d i = elim (told_key y.key b.key) [
  | inl q ↦
      let j : In x (b ∷ ys) = rw (q.0) at i in
      elim j [
        | inl e ↦ inl e
        | inr more ↦ inr (inr more, λ e. d.0 (subst (λ k. In k (branch_serials ys)) (ap (λ (z : Key). z.serial) (e ∙ sym q.1)) (in_serials x ys more)))
      ]
  | inr q ↦
      let j : In x (y ∷ put b ys) = rw (q.0) at i in
      elim j [
        | inl e ↦ inr (inl e, λ f. q.1 (sym (ap (λ (z : Branch). z.key) e) ∙ f))
        | inr more ↦ elim (in_put b x ys d.1 more) [ inl e ↦ inl e | inr rest ↦ inr (inr rest.0, rest.1) ]
      ]
]

pub put_in : (b x : Branch) (bs : List Branch) → In x bs → (x.key ≡ b.key → ⊥) → In x (put b bs)
put_in b x [] i other = absurd i
put_in b x (y ∷ ys) i other = elim (told_key y.key b.key) [
  | inl q ↦ rw (q.0) (elim i [ inl e ↦ absurd (other (ap (λ (z : Branch). z.key) e ∙ q.1)) | inr more ↦ inr more ])
  | inr q ↦ rw (q.0) (elim i [ inl e ↦ inl e | inr more ↦ inr (put_in b x ys more other) ])
]

pub own_in : (b : Branch) (bs : List Branch) → In b (put b bs)
own_in b [] = inl refl
own_in b (y ∷ ys) = elim (told_key y.key b.key) [
  | inl q ↦ rw (q.0) (inl refl)
  | inr q ↦ rw (q.0) (inr (own_in b ys))
]

pub length_put : (b : Branch) (bs : List Branch) → IsThere bs b.key → length (put b bs) ≡ length bs
length_put b [] h = let none : ⊥ = (let f : None ≡ Some h.0 = h.1 in cc) in absurd none
length_put b (y ∷ ys) h = elim (told_key y.key b.key) [
  | inl q ↦ rw (q.0) refl
  | inr q ↦ let e : find b.key ys ≡ Some h.0 = rw (q.0) at (h.1) in rw (q.0) (ap suc (length_put b ys (h.0, e)))
]

-- A branch that goes.

pub in_cut : (k : Key) (x : Branch) (bs : List Branch) → In x (cut k bs) → In x bs × (x.key ≡ k → ⊥)
in_cut k x [] i = absurd i
in_cut k x (y ∷ ys) i = elim (told_key y.key k) [
  | inl q ↦ let j : In x (cut k ys) = rw (q.0) at i in let r = in_cut k x ys j in (inr r.0, r.1)
  | inr q ↦
      let j : In x (y ∷ cut k ys) = rw (q.0) at i in
      elim j [ inl e ↦ (inl e, λ f. q.1 (sym (ap (λ (z : Branch). z.key) e) ∙ f)) | inr more ↦ (let r = in_cut k x ys more in (inr r.0, r.1)) ]
]

pub cut_in : (k : Key) (x : Branch) (bs : List Branch) → In x bs → (x.key ≡ k → ⊥) → In x (cut k bs)
cut_in k x [] i other = absurd i
cut_in k x (y ∷ ys) i other = elim (told_key y.key k) [
  | inl q ↦ rw (q.0) (elim i [ inl e ↦ absurd (other (ap (λ (z : Branch). z.key) e ∙ q.1)) | inr more ↦ cut_in k x ys more other ])
  | inr q ↦ rw (q.0) (elim i [ inl e ↦ inl e | inr more ↦ inr (cut_in k x ys more other) ])
]

pub length_cut : (k : Key) (bs : List Branch) → length (cut k bs) ≤ length bs
length_cut k [] = omega arith
length_cut k (y ∷ ys) = go (same_key y.key k) (length_cut k ys)
  where
    go : (b : Bool) → length (cut k ys) ≤ length ys → length (if b then cut k ys else y ∷ cut k ys) ≤ suc (length ys)
    go true more = omega (arith, more)
    go false more = omega (arith, more)

-- A branch that has changed something.

pub in_changed : (s : Id) (x : Branch) (bs : List Branch) → Distinct (branch_serials bs) → In x (with_changed s bs) →
    ((y : Branch) × In y bs × (s ≡ y.key.serial) × (x ≡ record y { changed = true })) ⊎ (In x bs × (s ≡ x.key.serial → ⊥))
in_changed s x [] d i = absurd i
in_changed s x (b ∷ bs) d i = go (same_id s b.key.serial) refl i (in_changed s x bs d.1)
  where
    go : (t : Bool) → same_id s b.key.serial ≡ t → In x (if t then record b { changed = true } ∷ bs else b ∷ with_changed s bs) →
        (In x (with_changed s bs) → ((y : Branch) × In y bs × (s ≡ y.key.serial) × (x ≡ record y { changed = true })) ⊎ (In x bs × (s ≡ x.key.serial → ⊥))) →
        ((y : Branch) × In y (b ∷ bs) × (s ≡ y.key.serial) × (x ≡ record y { changed = true })) ⊎ (In x (b ∷ bs) × (s ≡ x.key.serial → ⊥))
    go true t j rest = elim j [
      | inl e ↦ inl (b, inl refl, id_is s b.key.serial t, e)
      | inr more ↦ inr (inr more, λ e. d.0 (subst (λ y. In y (branch_serials bs)) (sym e ∙ id_is s b.key.serial t) (in_serials x bs more)))
    ]
    go false t j rest = elim j [
      | inl e ↦ inr (inl e, λ f. both_ways _ t (subst (λ y. same_id s y ≡ true) (f ∙ ap (λ (z : Branch). z.key.serial) e) (id_itself s)))
      | inr more ↦ elim (rest more) [ inl r ↦ inl (r.0, inr r.1, r.2, r.3) | inr r ↦ inr (inr r.0, r.1) ]
    ]

pub changed_in : (s : Id) (x : Branch) (bs : List Branch) → In x bs → In x (with_changed s bs) ⊎ ((s ≡ x.key.serial) × In (record x { changed = true }) (with_changed s bs))
changed_in s x [] i = absurd i
changed_in s x (b ∷ bs) i = go (same_id s b.key.serial) refl i (changed_in s x bs)
  where
    go : (t : Bool) → same_id s b.key.serial ≡ t → In x (b ∷ bs) → (In x bs → In x (with_changed s bs) ⊎ ((s ≡ x.key.serial) × In (record x { changed = true }) (with_changed s bs))) →
        In x (if t then record b { changed = true } ∷ bs else b ∷ with_changed s bs) ⊎ ((s ≡ x.key.serial) × In (record x { changed = true }) (if t then record b { changed = true } ∷ bs else b ∷ with_changed s bs))
    go true t j rest = elim j [
      | inl e ↦ inr (id_is s b.key.serial t ∙ ap (λ (z : Branch). z.key.serial) (sym e), inl (ap (λ (z : Branch). let c : Branch = record z { changed = true } in c) e))
      | inr more ↦ inl (inr more)
    ]
    go false t j rest = elim j [
      | inl e ↦ inl (inl e)
      | inr more ↦ elim (rest more) [ inl r ↦ inl (inr r) | inr r ↦ inr (r.0, inr r.1) ]
    ]

pub changed_serials : (s : Id) (bs : List Branch) → branch_serials (with_changed s bs) ≡ branch_serials bs
changed_serials s [] = refl
changed_serials s (b ∷ bs) = go (same_id s b.key.serial) (changed_serials s bs)
  where
    go : (t : Bool) → branch_serials (with_changed s bs) ≡ branch_serials bs → branch_serials (if t then record b { changed = true } ∷ bs else b ∷ with_changed s bs) ≡ b.key.serial ∷ branch_serials bs
    go true more = refl
    go false more = ap (λ xs. b.key.serial ∷ xs) more

pub length_changed : (s : Id) (bs : List Branch) → length (with_changed s bs) ≡ length bs
length_changed s [] = refl
length_changed s (b ∷ bs) = go (same_id s b.key.serial) (length_changed s bs)
  where
    go : (t : Bool) → length (with_changed s bs) ≡ length bs → length (if t then record b { changed = true } ∷ bs else b ∷ with_changed s bs) ≡ suc (length bs)
    go true more = refl
    go false more = ap suc more
