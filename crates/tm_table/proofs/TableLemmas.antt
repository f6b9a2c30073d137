-- A node's branches: what stands at a key, and what holds of the table after a branch was put or taken out.
use Rattle.std.proofs.Common.{◌≡◌, ℕ, ◌+◌, ◌<◌, ◌≤◌, Bool, true, false, List, [], ◌∷◌, ◌++◌, Option, Some, None, length, map, get_or, zero, suc, refl, ap, sym, subst, ◌∙◌, arith, inl, inr, is_some, length-append}
use Rattle.std.specs.List.{position, position_or_len, remove}
use Rattle.std.proofs.Math.ListN.{set}
use Rattle.std.proofs.lemmas.Bool.{cases_Bool}
use Rattle.vms_model.specs.Ids.{Id}
use Rattle.commit_protocol.specs.Messages.{LogRecord, same_id}
use Rattle.commit_protocol.specs.Table.{Key, Branch, same_key, find, find_serial, put, cut, add_record}
use Rattle.commit_protocol.proofs.Lists.{told_key, same_key-refl, find-key, find-put_other, find-cut_other, find-cut}
use Rattle.tm_types.specs.Branches.{branch_of}
use Rattle.tm_types.specs.declared.branch.BranchState.{BranchState}
use Rattle.tm_table.specs.Doing.{IsThere}
use Rattle.tm_table.specs.Kept.{Fits, AllFit, Unique, Keeps}
use Rattle.tm_table.proofs.PlaceLemmas.{position_at, position_none, at_first}

abbrev pub at_key : Key → BranchState → Bool
at_key k b = same_key (branch_of b).key k

pub found_at : (k : Key) (bs : List BranchState) (i : ℕ) (x : BranchState) → position (at_key k) bs ≡ Some i → x ≡ get_or bs i x → find k (map branch_of bs) ≡ Some (branch_of x)
found_at k bs i x e at =
    let q = position_at (at_key k) bs i e in
    at_first (at_key k) (λ xs. find k (map branch_of xs)) (λ j y ys. Some (branch_of y)) (λ y ys h. rw h refl) (λ y z ys j h r. rw h r) bs i x q.0 q.1 at

find_none : (k : Key) (bs : List BranchState) → length bs ≤ position_or_len (at_key k) bs → find k (map branch_of bs) ≡ None
find_none k [] le = refl
find_none k (y ∷ ys) le =
    elim (cases_Bool (at_key k y)) [
      | inl h ↦ absurd (let q : suc (length ys) ≤ 0 = rw h at le in omega arith)
      | inr h ↦ let q : suc (length ys) ≤ 1 + position_or_len (at_key k) ys = rw h at le in rw h (find_none k ys (omega arith))
    ]

pub not_found : (k : Key) (bs : List BranchState) → position (at_key k) bs ≡ None → find k (map branch_of bs) ≡ None
not_found k bs e = find_none k bs (position_none (at_key k) bs e)

pub put_at : (b : BranchState) (bs : List BranchState) (i : ℕ) (x : BranchState) → position (at_key (branch_of b).key) bs ≡ Some i → x ≡ get_or bs i x → put (branch_of b) (map branch_of bs) ≡ map branch_of (set bs i b)
put_at b bs i x e at =
    let k = (branch_of b).key in
    let q = position_at (at_key k) bs i e in
    at_first (at_key k) (λ xs. put (branch_of b) (map branch_of xs)) (λ j y ys. map branch_of (set ys j b)) (λ y ys h. rw h refl) (λ y z ys j h r. rw h (ap (λ rest. branch_of y ∷ rest) r)) bs i x q.0 q.1 at

pub put_last : (b : Branch) (bs : List Branch) → find b.key bs ≡ None → put b bs ≡ bs ++ b ∷ []
put_last b [] e = refl
put_last b (y ∷ ys) e =
    elim (cases_Bool (same_key y.key b.key)) [
      | inl h ↦ absurd (let q : Some y ≡ None = rw h at e in cc)
      | inr h ↦ let q : find b.key ys ≡ None = rw h at e in rw h (ap (λ rest. y ∷ rest) (put_last b ys q))
    ]

pub cut_none : (k : Key) (bs : List Branch) → find k bs ≡ None → cut k bs ≡ bs
cut_none k [] e = refl
cut_none k (y ∷ ys) e =
    elim (cases_Bool (same_key y.key k)) [
      | inl h ↦ absurd (let q : Some y ≡ None = rw h at e in cc)
      | inr h ↦ let q : find k ys ≡ None = rw h at e in rw h (ap (λ rest. y ∷ rest) (cut_none k ys q))
    ]

cut_place : (k : Key) (bs : List BranchState) (i : ℕ) → position_or_len (at_key k) bs ≡ i → i < length bs → Unique (map branch_of bs) → cut k (map branch_of bs) ≡ map branch_of (remove bs i)
cut_place k [] i e lt u = absurd (omega arith)
cut_place k (y ∷ ys) zero e lt u =
    elim (told_key (branch_of y).key k) [
      | inl h ↦ let q : find k (map branch_of ys) ≡ None = (let P : Key → Type 0 = λ j. find j (map branch_of ys) ≡ None in subst P h.1 u.0) in rw (h.0) (cut_none k (map branch_of ys) q)
      | inr h ↦ absurd (let q : 1 + position_or_len (at_key k) ys ≡ 0 = rw (h.0) at e in omega arith)
    ]
cut_place k (y ∷ ys) (suc j) e lt u =
    elim (cases_Bool (at_key k y)) [
      | inl h ↦ absurd (let q : 0 ≡ suc j = rw h at e in omega arith)
      | inr h ↦ let q : 1 + position_or_len (at_key k) ys ≡ suc j = rw h at e in
          let r : position_or_len (at_key k) ys ≡ j = omega arith in
          rw h (ap (λ rest. branch_of y ∷ rest) (cut_place k ys j r (omega arith) u.1))
    ]

pub cut_at : (k : Key) (bs : List BranchState) (i : ℕ) → position (at_key k) bs ≡ Some i → Unique (map branch_of bs) → cut k (map branch_of bs) ≡ map branch_of (remove bs i)
cut_at k bs i e u = let q = position_at (at_key k) bs i e in cut_place k bs i q.0 q.1 u

-- the first branch with a serial
abbrev pub at_serial : Id → BranchState → Bool
at_serial s b = same_id (branch_of b).key.serial s

pub found_serial : (s : Id) (bs : List BranchState) (i : ℕ) (x : BranchState) → position (at_serial s) bs ≡ Some i → x ≡ get_or bs i x → find_serial s (map branch_of bs) ≡ Some (branch_of x)
found_serial s bs i x e at =
    let q = position_at (at_serial s) bs i e in
    at_first (at_serial s) (λ xs. find_serial s (map branch_of xs)) (λ j y ys. Some (branch_of y)) (λ y ys h. rw h refl) (λ y z ys j h r. rw h r) bs i x q.0 q.1 at

serial_none : (s : Id) (bs : List BranchState) → length bs ≤ position_or_len (at_serial s) bs → find_serial s (map branch_of bs) ≡ None
serial_none s [] le = refl
serial_none s (y ∷ ys) le =
    elim (cases_Bool (at_serial s y)) [
      | inl h ↦ absurd (let q : suc (length ys) ≤ 0 = rw h at le in omega arith)
      | inr h ↦ let q : suc (length ys) ≤ 1 + position_or_len (at_serial s) ys = rw h at le in rw h (serial_none s ys (omega arith))
    ]

pub no_serial : (s : Id) (bs : List BranchState) → position (at_serial s) bs ≡ None → find_serial s (map branch_of bs) ≡ None
no_serial s bs e = serial_none s bs (position_none (at_serial s) bs e)

-- what is found stands there, and fits
pub there_found : (k : Key) (bs : List Branch) (b : Branch) → find k bs ≡ Some b → IsThere b.key bs
there_found k bs b e = let P : Key → Type 0 = λ j. is_some (find j bs) ≡ true in subst P (sym (find-key k bs b e)) (rw e refl)

there_more : (k : Key) (y : Branch) (ys : List Branch) → IsThere k ys → IsThere k (y ∷ ys)
there_more k y ys h = elim (cases_Bool (same_key y.key k)) [ inl e ↦ rw e refl | inr e ↦ rw e h ]

pub there_serial : (s : Id) (bs : List Branch) (b : Branch) → find_serial s bs ≡ Some b → IsThere b.key bs
there_serial s [] b e = absurd cc
there_serial s (y ∷ ys) b e =
    elim (cases_Bool (same_id y.key.serial s)) [
      | inl h ↦ let q : Some y ≡ Some b = rw h at e in let same : y ≡ b = cc in
          let P : Branch → Type 0 = λ z. IsThere z.key (y ∷ ys) in subst P same (rw (same_key-refl y.key) refl)
      | inr h ↦ let q : find_serial s ys ≡ Some b = rw h at e in there_more b.key y ys (there_serial s ys b q)
    ]

pub fits_found : (k : Key) (bs : List Branch) (b : Branch) → AllFit bs → find k bs ≡ Some b → Fits b
fits_found k [] b f e = absurd cc
fits_found k (y ∷ ys) b f e =
    elim (cases_Bool (same_key y.key k)) [
      | inl h ↦ let q : Some y ≡ Some b = rw h at e in let same : y ≡ b = cc in let P : Branch → Type 0 = λ z. Fits z in subst P same f.0
      | inr h ↦ let q : find k ys ≡ Some b = rw h at e in fits_found k ys b f.1 q
    ]

pub fits_serial : (s : Id) (bs : List Branch) (b : Branch) → AllFit bs → find_serial s bs ≡ Some b → Fits b
fits_serial s [] b f e = absurd cc
fits_serial s (y ∷ ys) b f e =
    elim (cases_Bool (same_id y.key.serial s)) [
      | inl h ↦ let q : Some y ≡ Some b = rw h at e in let same : y ≡ b = cc in let P : Branch → Type 0 = λ z. Fits z in subst P same f.0
      | inr h ↦ let q : find_serial s ys ≡ Some b = rw h at e in fits_serial s ys b f.1 q
    ]

-- after a branch was put
pub fits_put : (b : Branch) (bs : List Branch) → Fits b → AllFit bs → AllFit (put b bs)
fits_put b [] f all = (f, tt)
fits_put b (y ∷ ys) f all =
    elim (cases_Bool (same_key y.key b.key)) [ inl h ↦ rw h (f, all.1) | inr h ↦ rw h (all.0, fits_put b ys f all.1) ]

pub fits_cut : (k : Key) (bs : List Branch) → AllFit bs → AllFit (cut k bs)
fits_cut k [] all = tt
fits_cut k (y ∷ ys) all =
    elim (cases_Bool (same_key y.key k)) [ inl h ↦ rw h (fits_cut k ys all.1) | inr h ↦ rw h (all.0, fits_cut k ys all.1) ]

pub unique_put : (d : Branch) (bs : List Branch) → Unique bs → Unique (put d bs)
unique_put d [] u = (refl, tt)
unique_put d (x ∷ xs) u =
    elim (told_key x.key d.key) [
      | inl e ↦ rw (e.0) ((let P : Key → Type 0 = λ y. find y xs ≡ None in subst P e.1 u.0), u.1)
      | inr e ↦ rw (e.0) ((find-put_other x.key d xs (λ q. e.1 (sym q)) ∙ u.0), unique_put d xs u.1)
    ]

find-cut_none : (j k : Key) (bs : List Branch) → find k bs ≡ None → find k (cut j bs) ≡ None
find-cut_none j k bs h =
    elim (told_key j k) [
      | inl e ↦ let P : Key → Type 0 = λ y. find y (cut j bs) ≡ None in subst P e.1 (find-cut j bs)
      | inr e ↦ find-cut_other j k bs e.1 ∙ h
    ]

pub unique_cut : (j : Key) (bs : List Branch) → Unique bs → Unique (cut j bs)
unique_cut j [] u = tt
unique_cut j (x ∷ xs) u =
    elim (cases_Bool (same_key x.key j)) [
      | inl e ↦ rw e (unique_cut j xs u.1)
      | inr e ↦ rw e (find-cut_none j x.key xs u.0, unique_cut j xs u.1)
    ]

length-put_there : (b : Branch) (bs : List Branch) → IsThere b.key bs → length (put b bs) ≡ length bs
length-put_there b [] h = absurd (let q : false ≡ true = h in cc)
length-put_there b (y ∷ ys) h =
    elim (cases_Bool (same_key y.key b.key)) [
      | inl e ↦ rw e refl
      | inr e ↦ let q : IsThere b.key ys = rw e at h in rw e (ap (λ n. suc n) (length-put_there b ys q))
    ]

length-put : (b : Branch) (bs : List Branch) → length (put b bs) ≤ length bs + 1
length-put b [] = omega arith
length-put b (y ∷ ys) =
    elim (cases_Bool (same_key y.key b.key)) [
      | inl e ↦ let q : length (put b (y ∷ ys)) ≡ suc (length ys) = rw e refl in omega arith
      | inr e ↦ let q : length (put b (y ∷ ys)) ≡ suc (length (put b ys)) = rw e refl in let r = length-put b ys in omega arith
    ]

length-cut : (k : Key) (bs : List Branch) → length (cut k bs) ≤ length bs
length-cut k [] = omega arith
length-cut k (y ∷ ys) =
    elim (cases_Bool (same_key y.key k)) [
      | inl e ↦ let q : length (cut k (y ∷ ys)) ≡ length (cut k ys) = rw e refl in let r = length-cut k ys in omega arith
      | inr e ↦ let q : length (cut k (y ∷ ys)) ≡ suc (length (cut k ys)) = rw e refl in let r = length-cut k ys in omega arith
    ]

pub length-cut_there : (k : Key) (bs : List Branch) → IsThere k bs → length (cut k bs) + 1 ≤ length bs
length-cut_there k [] h = absurd (let q : false ≡ true = h in cc)
length-cut_there k (y ∷ ys) h =
    elim (cases_Bool (same_key y.key k)) [
      | inl e ↦ let q : length (cut k (y ∷ ys)) ≡ length (cut k ys) = rw e refl in let r = length-cut k ys in omega arith
      | inr e ↦ let g : IsThere k ys = rw e at h in
          let q : length (cut k (y ∷ ys)) ≡ suc (length (cut k ys)) = rw e refl in let r = length-cut_there k ys g in omega arith
    ]

pub there_put : (b : Branch) (bs : List Branch) → IsThere b.key (put b bs)
there_put b [] = rw (same_key-refl b.key) refl
there_put b (y ∷ ys) =
    elim (cases_Bool (same_key y.key b.key)) [ inl e ↦ rw (e, same_key-refl b.key) refl | inr e ↦ rw (e, e) (there_put b ys) ]

pub keeps_note : (b : Branch) (t : List Branch) (rs : List LogRecord) → Keeps t rs → IsThere b.key t → Fits b → Keeps (put b t) rs
keeps_note b t rs k h f =
    let e = length-put_there b t h in let few = k.few in let slots = k.slots in
    record { few = omega arith; slots = omega arith; unique = unique_put b t k.unique; fit = fits_put b t f k.fit }

pub keeps_begin : (b : Branch) (t : List Branch) (rs : List LogRecord) → Keeps t rs → length t < 64 → length t + length rs < 512 → Fits b → Keeps (put b t) rs
keeps_begin b t rs k lt slots f =
    let e = length-put b t in
    record { few = omega arith; slots = omega arith; unique = unique_put b t k.unique; fit = fits_put b t f k.fit }

pub keeps_cut : (j : Key) (t : List Branch) (rs : List LogRecord) → Keeps t rs → Keeps (cut j t) rs
keeps_cut j t rs k =
    let e = length-cut j t in let few = k.few in let slots = k.slots in
    record { few = omega arith; slots = omega arith; unique = unique_cut j t k.unique; fit = fits_cut j t k.fit }

add_record_length : (o : Option LogRecord) (rs : List LogRecord) → length (add_record o rs) ≤ length rs + 1
add_record_length None rs = omega arith
add_record_length (Some r) rs = let e = length-append rs (r ∷ []) in omega arith

pub keeps_settle : (j : Key) (o : Option LogRecord) (t : List Branch) (rs : List LogRecord) → Keeps t rs → IsThere j t → Keeps (cut j t) (add_record o rs)
keeps_settle j o t rs k h =
    let e = length-cut_there j t h in let a = add_record_length o rs in let few = k.few in let slots = k.slots in
    record { few = omega arith; slots = omega arith; unique = unique_cut j t k.unique; fit = fits_cut j t k.fit }

pub keeps_records : (t : List Branch) (rs qs : List LogRecord) → Keeps t rs → length qs ≤ length rs → Keeps t qs
keeps_records t rs qs k le =
    let few = k.few in let slots = k.slots in
    record { few = few; slots = omega arith; unique = k.unique; fit = k.fit }
