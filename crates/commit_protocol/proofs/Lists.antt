-- Membership, and a table at a key.
use Rattle.std.proofs.Common.{◌≡◌, ◌≢◌, ℕ, ◌==◌, ◌&&◌, Bool, true, false, List, [], ◌∷◌, ◌++◌, Option, Some, None, ◌⊎◌, inl, inr, refl, ap, sym, subst, ◌∙◌, zero, suc, slice_get}
use Rattle.std.specs.Prelude.{if◌then◌else◌}
use Rattle.std.specs.Str.{bytes_eq}
use Rattle.std.proofs.lemmas.Slice.Eq.{bytes_eq-Decides}
use Rattle.std.proofs.lemmas.Bool.{eqb-true, eq-eqb, and_parts, cases_Bool}
use Rattle.vms_model.specs.Ids.{Id}
use Rattle.commit_protocol.specs.Messages.{Name, same_name, same_id}
use Rattle.commit_protocol.specs.Table.{Key, Branch, same_key, find, find_serial, put, cut}
use Rattle.commit_protocol.specs.World.{In}

-- a test decides a fact
abbrev pub Decided : Bool → Type 0 → Type 0
Decided b P = ((b ≡ true) × P) ⊎ ((b ≡ false) × ¬ P)

pub same_name-refl : (a : Name) → same_name a a ≡ true
unfolding same_name
same_name-refl a = (bytes_eq-Decides a a).1 refl

pub same_name-true : (a b : Name) → same_name a b ≡ true → a ≡ b
unfolding same_name
same_name-true a b h = (bytes_eq-Decides a b).0 h

pub same_name-eq : (a b : Name) → a ≡ b → same_name a b ≡ true
same_name-eq a b e = let P : Name → Type 0 = λ x. same_name a x ≡ true in subst P e (same_name-refl a)

pub same_name-ne : (a b : Name) → (a ≡ b → ⊥) → same_name a b ≡ false
same_name-ne a b ne = elim (cases_Bool (same_name a b)) [ inl e ↦ absurd (ne (same_name-true a b e)) | inr e ↦ e ]

pub cases_name : (a b : Name) → (a ≡ b) ⊎ (a ≡ b → ⊥)
cases_name a b = elim (cases_Bool (same_name a b)) [
  | inl e ↦ inl (same_name-true a b e)
  | inr e ↦ inr (λ q. let z : true ≡ false = sym (same_name-eq a b q) ∙ e in cc)
]

pub same_id-refl : (a : Id) → same_id a a ≡ true
unfolding same_id same_name
same_id-refl a = rw (same_name-refl a.node, eq-eqb a.boot a.boot refl, eq-eqb a.seq a.seq refl) refl

pub same_id-true : (a b : Id) → same_id a b ≡ true → a ≡ b
unfolding same_id same_name
same_id-true a b h =
    let p = and_parts (bytes_eq a.node b.node) ((a.boot == b.boot) && (a.seq == b.seq)) h in
    let q = and_parts (a.boot == b.boot) (a.seq == b.seq) p.1 in
    let e1 = same_name-true a.node b.node p.0 in
    let e2 = eqb-true a.boot b.boot q.0 in
    let e3 = eqb-true a.seq b.seq q.1 in
    λ i. record { node = e1 i; boot = e2 i; seq = e3 i }

told_by : (b : Bool) (P : Type 0) → (b ≡ true → P) → (P → b ≡ true) → Decided b P
told_by true P f g = inl (refl, f refl)
told_by false P f g = inr (refl, λ p. absurd (let e = g p in cc))

pub told_id : (a b : Id) → Decided (same_id a b) (a ≡ b)
told_id a b = told_by (same_id a b) (a ≡ b) (same_id-true a b) (λ e. let P : Id → Type 0 = λ x. same_id a x ≡ true in subst P e (same_id-refl a))

pub same_key-refl : (a : Key) → same_key a a ≡ true
unfolding same_key
same_key-refl a = rw (same_id-refl a.tid, same_id-refl a.serial) refl

pub same_key-true : (a b : Key) → same_key a b ≡ true → a ≡ b
unfolding same_key
same_key-true a b h =
    let p = and_parts (same_id a.tid b.tid) (same_id a.serial b.serial) h in
    let e1 = same_id-true a.tid b.tid p.0 in
    let e2 = same_id-true a.serial b.serial p.1 in
    λ i. record { tid = e1 i; serial = e2 i }

pub told_key : (a b : Key) → Decided (same_key a b) (a ≡ b)
told_key a b = told_by (same_key a b) (a ≡ b) (same_key-true a b) (λ e. let P : Key → Type 0 = λ x. same_key a x ≡ true in subst P e (same_key-refl a))

-- a table after `put` and `cut`, at the key and at each other one
pub find-put : (b : Branch) (bs : List Branch) → find b.key (put b bs) ≡ Some b
find-put b [] = rw (same_key-refl b.key) refl
find-put b (x ∷ xs) =
    elim (cases_Bool (same_key x.key b.key)) [
      | inl e ↦ rw (e, same_key-refl b.key) refl
      | inr e ↦ rw (e, e) (find-put b xs)
    ]

pub find-put_other : (k : Key) (b : Branch) (bs : List Branch) → b.key ≢ k → find k (put b bs) ≡ find k bs
find-put_other k b [] ne =
    elim (told_key b.key k) [
      | inl e ↦ absurd (ne e.1)
      | inr e ↦ rw (e.0) refl
    ]
find-put_other k b (x ∷ xs) ne =
    elim (told_key x.key b.key) [
      | inl e ↦ elim (told_key x.key k) [
        | inl h ↦ absurd (ne (sym e.1 ∙ h.1))
        | inr h ↦ elim (told_key b.key k) [
          | inl g ↦ absurd (ne g.1)
          | inr g ↦ rw (e.0, h.0, g.0) refl
        ]
      ]
      | inr e ↦ elim (cases_Bool (same_key x.key k)) [
        | inl h ↦ rw (e.0, h) refl
        | inr h ↦ rw (e.0, h) (find-put_other k b xs ne)
      ]
    ]

pub find-cut : (k : Key) (bs : List Branch) → find k (cut k bs) ≡ None
find-cut k [] = refl
find-cut k (x ∷ xs) =
    elim (cases_Bool (same_key x.key k)) [
      | inl e ↦ rw e (find-cut k xs)
      | inr e ↦ rw (e, e) (find-cut k xs)
    ]

pub find-cut_other : (j k : Key) (bs : List Branch) → j ≢ k → find k (cut j bs) ≡ find k bs
find-cut_other j k [] ne = refl
find-cut_other j k (x ∷ xs) ne =
    elim (told_key x.key j) [
      | inl e ↦ elim (told_key x.key k) [
        | inl h ↦ absurd (ne (sym e.1 ∙ h.1))
        | inr h ↦ rw (e.0, h.0) (find-cut_other j k xs ne)
      ]
      | inr e ↦ elim (cases_Bool (same_key x.key k)) [
        | inl h ↦ rw (e.0, h) refl
        | inr h ↦ rw (e.0, h) (find-cut_other j k xs ne)
      ]
    ]

-- what is found has the key
pub find-key : (k : Key) (bs : List Branch) (b : Branch) → find k bs ≡ Some b → b.key ≡ k
find-key k [] b h = absurd cc
find-key k (x ∷ xs) b h =
    elim (told_key x.key k) [
      | inl e ↦ let h' : Some x ≡ Some b = rw (e.0) at h in let s : x ≡ b = cc in ap (λ (y : Branch). y.key) (sym s) ∙ e.1
      | inr e ↦ let h' : find k xs ≡ Some b = rw (e.0) at h in find-key k xs b h'
    ]

-- one key of a function set anew
abbrev pub set_at : Key → Option Branch → (Key → Option Branch) → Key → Option Branch
set_at j o f k = if same_key j k then o else f k

pub set_cases : (j k : Key) (o : Option Branch) (f : Key → Option Branch) → ((j ≡ k) × (set_at j o f k ≡ o)) ⊎ ((j ≢ k) × (set_at j o f k ≡ f k))
set_cases j k o f =
    elim (told_key j k) [
      | inl e ↦ inl (e.1, rw (e.0) refl)
      | inr e ↦ inr (e.1, rw (e.0) refl)
    ]

pub in_left : {A : Type 0} (x : A) (xs ys : List A) → In x xs → In x (xs ++ ys)
in_left x [] ys h = absurd h
in_left x (y ∷ xs) ys (inl e) = inl e
in_left x (y ∷ xs) ys (inr e) = inr (in_left x xs ys e)

pub in_right : {A : Type 0} (x : A) (xs ys : List A) → In x ys → In x (xs ++ ys)
in_right x [] ys h = h
in_right x (y ∷ xs) ys h = inr (in_right x xs ys h)

pub in_parts : {A : Type 0} (x : A) (xs ys : List A) → In x (xs ++ ys) → In x xs ⊎ In x ys
in_parts x [] ys h = inr h
in_parts x (y ∷ xs) ys (inl e) = inl (inl e)
in_parts x (y ∷ xs) ys (inr e) = elim (in_parts x xs ys e) [ inl h ↦ inl (inr h) | inr h ↦ inr h ]

-- no key stands twice
abbrev pub Unique : List Branch → Type 0
Unique [] = Unit {0}
Unique (b ∷ bs) = (find b.key bs ≡ None) × Unique bs

pub unique-put : (d : Branch) (bs : List Branch) → Unique bs → Unique (put d bs)
unique-put d [] u = (refl, tt)
unique-put d (x ∷ xs) u =
    elim (told_key x.key d.key) [
      | inl e ↦ rw (e.0) ((let P : Key → Type 0 = λ y. find y xs ≡ None in subst P e.1 u.0), u.1)
      | inr e ↦ rw (e.0) ((find-put_other x.key d xs (λ q. e.1 (sym q)) ∙ u.0), unique-put d xs u.1)
    ]

pub find-cut_none : (j k : Key) (bs : List Branch) → find k bs ≡ None → find k (cut j bs) ≡ None
find-cut_none j k bs h =
    elim (told_key j k) [
      | inl e ↦ let P : Key → Type 0 = λ y. find y (cut j bs) ≡ None in subst P e.1 (find-cut j bs)
      | inr e ↦ find-cut_other j k bs e.1 ∙ h
    ]

pub unique-cut : (j : Key) (bs : List Branch) → Unique bs → Unique (cut j bs)
unique-cut j [] u = tt
unique-cut j (x ∷ xs) u =
    elim (cases_Bool (same_key x.key j)) [
      | inl e ↦ rw e (unique-cut j xs u.1)
      | inr e ↦ rw e (find-cut_none j x.key xs u.0, unique-cut j xs u.1)
    ]

pub slice_in : {A : Type 0} (xs : List A) (k : ℕ) (x : A) → slice_get xs k ≡ Some x → In x xs
slice_in [] k x h = absurd cc
slice_in (y ∷ xs) zero x h = inl (let e : y ≡ x = cc in sym e)
slice_in (y ∷ xs) (suc k) x h = inr (slice_in xs k x h)

-- what stands in a list stands at a place of it
pub in_slice : {A : Type 0} (xs : List A) (x : A) → In x xs → (k : ℕ) × (slice_get xs k ≡ Some x)
in_slice [] x h = absurd h
in_slice (y ∷ xs) x (inl e) = (0, ap (λ z. Some z) (sym e))
in_slice (y ∷ xs) x (inr h) = let q = in_slice xs x h in (suc q.0, q.1)

-- the first branch with a serial has it, and is the one with its key
pub find_serial-serial : (s : Id) (bs : List Branch) (b : Branch) → find_serial s bs ≡ Some b → b.key.serial ≡ s
find_serial-serial s [] b e = absurd cc
find_serial-serial s (x ∷ xs) b e =
    elim (told_id x.key.serial s) [
      | inl q ↦ let e' : Some x ≡ Some b = rw (q.0) at e in let same : x ≡ b = cc in ap (λ (y : Branch). y.key.serial) (sym same) ∙ q.1
      | inr q ↦ let e' : find_serial s xs ≡ Some b = rw (q.0) at e in find_serial-serial s xs b e'
    ]

pub find_serial-key : (s : Id) (bs : List Branch) (b : Branch) → find_serial s bs ≡ Some b → find b.key bs ≡ Some b
find_serial-key s [] b e = absurd cc
find_serial-key s (x ∷ xs) b e =
    elim (told_id x.key.serial s) [
      | inl q ↦
          let e' : Some x ≡ Some b = rw (q.0) at e in
          let same : x ≡ b = cc in
          let P : Branch → Type 0 = λ y. find y.key (x ∷ xs) ≡ Some y in
          subst P same (rw (same_key-refl x.key) refl)
      | inr q ↦
          let e' : find_serial s xs ≡ Some b = rw (q.0) at e in
          elim (told_key x.key b.key) [
            | inl z ↦ absurd (q.1 (ap (λ (y : Key). y.serial) z.1 ∙ find_serial-serial s xs b e'))
            | inr z ↦ rw (z.0) (find_serial-key s xs b e')
          ]
    ]
