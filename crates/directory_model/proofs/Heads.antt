-- What holds of the heads, also where a file is made or marked.
use Rattle.std.proofs.Common.{◌≡◌, ◌⊎◌, ℕ, zero, suc, ◌+◌, ◌*◌, ◌<◌, List, [], ◌∷◌, ◌++◌, length, take, Bool, true, false, Option, Some, None, nat_le, nat_lt, slice_set, slice_index_or, refl, sym, ap, subst, ◌∙◌, arith, inl, inr, ⊎_elim}
use Rattle.std.specs.Prelude.{◌&&◌}
use Rattle.std.proofs.lemmas.Bool.Decides.{nat_tests}
use Rattle.std.proofs.lemmas.Bool.{cases_eq}
use Rattle.std.proofs.lemmas.List.{get_or-set_other, get_or-set_same, get_or-take, length-set, length-take}
use Rattle.extents.specs.file_base.declared.head.FileHead.{FileHead}
use Rattle.extents.specs.declared.extent.Extent.{Extent as Area}
use Rattle.extents.specs.Extents.{IsFreeRun, FitsAt, all_extents, covers, extents_of, is_free, is_used, nowhere}
use Rattle.extents.proofs.Used.{covered, free_is, used_at, not_both, either_false}
use Rattle.file_images.specs.script_model.Statements.{Form}
use Rattle.extents.specs.file_base.declared.head.Span.{Span}
use Rattle.directory_model.specs.Files.{AreNamedOnce, NoneNamed, Fit, IsNewHead, head_at}
use Rattle.directory_model.specs.Laws.{KeepsHeads, marked}
use Rattle.directory_model.proofs.Places.{within_list}
use Rattle.directory_model.proofs.Apart.{long, own, pair}

-- What stands at a number once a file is there.

head_set : (heads : List (Option FileHead)) (f g : ℕ) (new h : FileHead) → head_at (slice_set heads f (Some new)) g ≡ Some h → ((g ≡ f) × (h ≡ new)) ⊎ (head_at heads g ≡ Some h)
head_set [] f g new h there = inr there
head_set (o ∷ heads) zero zero new h there = inl (refl, (let e : new ≡ h = cc in sym e))
head_set (o ∷ heads) zero (suc g) new h there = inr there
head_set (o ∷ heads) (suc f) zero new h there = inr there
head_set (o ∷ heads) (suc f) (suc g) new h there = ⊎_elim (λ here. inl (ap suc here.0, here.1)) (λ old. inr old) (head_set heads f g new h there)

-- Names.

creates_named : (heads : List (Option FileHead)) (f : ℕ) (h : FileHead) → AreNamedOnce heads → length heads ≡ 64 → NoneNamed heads 64 h.name → AreNamedOnce (slice_set heads f (Some h))
creates_named heads f h once long none g other there lower third below there_too same =
    ⊎_elim
    (λ new. ⊎_elim
    (λ new_too. absurd (let a = new.0 in let b = new_too.0 in omega arith))
    (λ old_too. none lower third (let w = within_list heads lower third old_too in omega arith) old_too (same ∙ ap (λ (x : FileHead). x.name) new.1))
    (head_set heads f lower h third there_too))
    (λ old. ⊎_elim
    (λ new_too. none g other (let w = within_list heads g other old in omega arith) old (sym same ∙ ap (λ (x : FileHead). x.name) new_too.1))
    (λ old_too. once g other old lower third below old_too same)
    (head_set heads f lower h third there_too))
    (head_set heads f g h other there)

-- what stands at a number under the name that stood there before
named_still : (heads : List (Option FileHead)) (f : ℕ) (h new : FileHead) → AreNamedOnce heads → head_at heads f ≡ Some h → new.name ≡ h.name → AreNamedOnce (slice_set heads f (Some new))
named_still heads f h new once is name g other there lower third below there_too same =
    let first = was g other there in
    let second = was lower third there_too in
    once g first.0 first.1 lower second.0 below second.1 (sym second.2 ∙ same ∙ first.2)
  where
    was : (g : ℕ) (other : FileHead) → head_at (slice_set heads f (Some new)) g ≡ Some other → (old : FileHead) × (head_at heads g ≡ Some old) × (other.name ≡ old.name)
    was g other there = ⊎_elim (λ it. (h, ap (head_at heads) it.0 ∙ is, ap (λ (x : FileHead). x.name) it.1 ∙ name)) (λ old. (other, old, refl)) (head_set heads f g new other there)

-- Extents that fit.

same_extents : (heads : List (Option FileHead)) (f : ℕ) (h new : FileHead) → extents_of (Some h) ≡ extents_of (Some new) → head_at heads f ≡ Some h → all_extents heads ≡ all_extents (slice_set heads f (Some new))
same_extents [] f h new same there = refl
same_extents (None ∷ heads) zero h new same there = let no : ⊥ = cc in absurd no
same_extents (Some first ∷ heads) zero h new same there = let it : first ≡ h = cc in ap (λ (x : FileHead). all_extents (Some x ∷ heads)) it ∙ ap (λ es. es ++ all_extents heads) same
same_extents (o ∷ heads) (suc f) h new same there = ap (λ es. extents_of o ++ es) (same_extents heads f h new same there)

fit_still : (area : Area) (heads : List (Option FileHead)) (f : ℕ) (h new : FileHead) → Fit area heads → head_at heads f ≡ Some h → extents_of (Some h) ≡ extents_of (Some new) → Fit area (slice_set heads f (Some new))
fit_still area heads f h new fit there same = record {
  heads_long = length-set heads f (Some new) ∙ fit.heads_long;
  behind = fit.behind;
  each = subst (λ es. (i : ℕ) → i < 256 → FitsAt area es i) (same_extents heads f h new same there) fit.each;
}

-- none of these has the block, where the one at no place has
unused_all : (es : List Area) (n : ℕ) → ((j : ℕ) → j < length es → covers (slice_index_or es j nowhere) n ≡ true → ⊥) → is_used es n ≡ false
unused_all [] n none = refl
unused_all (e ∷ es) n none = either_false (covers e n) (is_used es n) (not_true (covers e n) (none 0 (omega arith))) (unused_all es n (λ j below. none (suc j) (omega arith)))
  where
    not_true : (b : Bool) → (b ≡ true → ⊥) → b ≡ false
    not_true true never = absurd (never refl)
    not_true false _ = refl

none_of : (a b : ℕ) → a ≡ 0 → a * b ≡ 0
none_of a b none = let zero_times : 0 * b ≡ 0 = omega arith in ap (λ x. x * b) none ∙ zero_times

-- an extent of no blocks has none
empty_extent : (from size n : ℕ) → size ≡ 0 → (nat_le from n && nat_lt n (from + size)) ≡ true → ⊥
empty_extent from size n none has = some (grind (arith, nat_tests)) has
  where
    some : (nat_le from n && nat_lt n (from + size)) ≡ false → (nat_le from n && nat_lt n (from + size)) ≡ true → ⊥
    some a b = let k : true ≡ false = sym b ∙ a in cc

-- a block of an extent, once a file is made, was one of it, or is one of the new file
new_covers : (heads : List (Option FileHead)) (f i n : ℕ) (form : Form) (h : FileHead) → IsNewHead form h → covers (slice_index_or (all_extents (slice_set heads f (Some h))) i nowhere) n ≡ true →
    (covers (slice_index_or (all_extents heads) i nowhere) n ≡ true) ⊎ ((i ≡ 4 * f) × (covers (own h) n ≡ true))
new_covers [] f i n form h new has = inl has
new_covers (o ∷ heads) zero i n form h new has = at i has
  where
    rest_of : (o : Option FileHead) (i : ℕ) → slice_index_or (all_extents (o ∷ heads)) (suc (suc (suc (suc i)))) nowhere ≡ slice_index_or (all_extents heads) i nowhere
    rest_of None i = refl
    rest_of (Some x) i = refl

    at : (i : ℕ) → covers (slice_index_or (all_extents (Some h ∷ heads)) i nowhere) n ≡ true → (covers (slice_index_or (all_extents (o ∷ heads)) i nowhere) n ≡ true) ⊎ ((i ≡ 0) × (covers (own h) n ≡ true))
    at zero has = inr (refl, has)
    at (suc zero) has = absurd (empty_extent h.ai.start h.ai.blocks n (ap (λ (s : Span). s.blocks) new.carried.after) has)
    at (suc (suc zero)) has = absurd (empty_extent h.bi.start h.bi.blocks n (ap (λ (s : Span). s.blocks) new.carried.before) has)
    at (suc (suc (suc zero))) has = absurd (empty_extent h.save.start (h.save.alloc * h.bucket) n (none_of h.save.alloc h.bucket new.carried.save_buckets) has)
    at (suc (suc (suc (suc i)))) has = inl (ap (λ e. covers e n) (rest_of o i) ∙ has)
new_covers (o ∷ heads) (suc f) i n form h new has = at o i (λ j. new_covers heads f j n form h new) has
  where
    after : (f j : ℕ) → j ≡ 4 * f → suc (suc (suc (suc j))) ≡ 4 * suc f
    after f j is = omega arith

    at : (o : Option FileHead) (i : ℕ) → ((j : ℕ) → covers (slice_index_or (all_extents (slice_set heads f (Some h))) j nowhere) n ≡ true → (covers (slice_index_or (all_extents heads) j nowhere) n ≡ true) ⊎ ((j ≡ 4 * f) × (covers (own h) n ≡ true))) →
        covers (slice_index_or (all_extents (o ∷ slice_set heads f (Some h))) i nowhere) n ≡ true → (covers (slice_index_or (all_extents (o ∷ heads)) i nowhere) n ≡ true) ⊎ ((i ≡ 4 * suc f) × (covers (own h) n ≡ true))
    at None zero more has = inl has
    at None (suc zero) more has = inl has
    at None (suc (suc zero)) more has = inl has
    at None (suc (suc (suc zero))) more has = inl has
    at None (suc (suc (suc (suc j)))) more has = ⊎_elim (λ old. inl old) (λ it. inr (after f j it.0, it.1)) (more j has)
    at (Some x) zero more has = inl has
    at (Some x) (suc zero) more has = inl has
    at (Some x) (suc (suc zero)) more has = inl has
    at (Some x) (suc (suc (suc zero))) more has = inl has
    at (Some x) (suc (suc (suc (suc j)))) more has = ⊎_elim (λ old. inl old) (λ it. inr (after f j it.0, it.1)) (more j has)

-- Extents of which one is another, whose blocks are free.
module _ (area : Area) (heads : List (Option FileHead)) (fit : Fit area heads) (made : List Area) (place : ℕ) (fresh : Area)
    (split : (i n : ℕ) → covers (slice_index_or made i nowhere) n ≡ true → (covers (slice_index_or (all_extents heads) i nowhere) n ≡ true) ⊎ ((i ≡ place) × (covers fresh n ≡ true)))
    (unused : (n : ℕ) → covers fresh n ≡ true → (covers area n ≡ true) × (is_used (all_extents heads) n ≡ false)) where
  fresh_apart : (i n : ℕ) → i < 256 → covers (slice_index_or (all_extents heads) i nowhere) n ≡ true → covers fresh n ≡ true → ⊥
  fresh_apart i n within has has_too = let count = long area heads fit in not_both (is_used (all_extents heads) n) (used_at (all_extents heads) i n nowhere (omega arith) has) (unused n has_too).1

  made_pair : (i j n : ℕ) → j < i → i < 256 → covers (slice_index_or made i nowhere) n ≡ true → covers (slice_index_or made j nowhere) n ≡ true → ⊥
  made_pair i j n below within has has_too =
      ⊎_elim
      (λ old. ⊎_elim (λ old_too. pair area heads fit i j n below within old old_too) (λ it. fresh_apart i n within old it.1) (split j n has_too))
      (λ it. ⊎_elim (λ old_too. fresh_apart j n (omega arith) old_too it.1) (λ it_too. let a = it.0 in let b = it_too.0 in absurd (omega arith)) (split j n has_too))
      (split i n has)

  made_fit : (i : ℕ) → i < 256 → FitsAt area made i
  made_fit i within = record {
    inside = λ n has. ⊎_elim (λ old. (fit.each i within).inside n old) (λ it. (unused n it.1).0) (split i n has);
    apart = λ n has. unused_all (take i made) n (λ j below has_too.
        let few = length-take i made in
        let before : j < i = omega (arith, few) in
        made_pair i j n before within has (sym (ap (λ e. covers e n) (get_or-take i made j nowhere before)) ∙ has_too));
  }

creates : (area : Area) (heads : List (Option FileHead)) (f : ℕ) (form : Form) (h : FileHead) → Fit area heads → f < 64 → IsNewHead form h → IsFreeRun area (all_extents heads) h.start (h.alloc * h.bucket) → Fit area (slice_set heads f (Some h))
creates area heads f form h fit low new run = record {
  heads_long = length-set heads f (Some h) ∙ fit.heads_long;
  behind = fit.behind;
  each = made_fit area heads fit (all_extents (slice_set heads f (Some h))) (4 * f) (own h) (λ i n. new_covers heads f i n form h new)
      (λ n has. let lies = covered (own h) n has in free_is area (all_extents heads) n (run.all n lies.0 lies.1));
}

-- One extent of a file is another.

set_four : (x : FileHead) (rest : List Area) (k : ℕ) (e : Area) → k < 4 → slice_set (extents_of (Some x)) k e ++ rest ≡ slice_set (extents_of (Some x) ++ rest) (4 * zero + k) e
set_four x rest zero e less = refl
set_four x rest (suc zero) e less = refl
set_four x rest (suc (suc zero)) e less = refl
set_four x rest (suc (suc (suc zero))) e less = refl
set_four x rest (suc (suc (suc (suc k)))) e less = absurd (omega arith)

behind_four : (o : Option FileHead) (rest : List Area) (j : ℕ) (e : Area) → extents_of o ++ slice_set rest j e ≡ slice_set (extents_of o ++ rest) (suc (suc (suc (suc j)))) e
behind_four None rest j e = refl
behind_four (Some x) rest j e = refl

one_set : (heads : List (Option FileHead)) (f k : ℕ) (h new : FileHead) (e : Area) → head_at heads f ≡ Some h → k < 4 → extents_of (Some new) ≡ slice_set (extents_of (Some h)) k e → all_extents (slice_set heads f (Some new)) ≡ slice_set (all_extents heads) (4 * f + k) e
one_set [] f k h new e there less is = let no : ⊥ = cc in absurd no
one_set (None ∷ heads) zero k h new e there less is = let no : ⊥ = cc in absurd no
one_set (Some first ∷ heads) zero k h new e there less is =
    let same : h ≡ first = let it : first ≡ h = cc in sym it in
    ap (λ es. es ++ all_extents heads) (is ∙ ap (λ (x : FileHead). slice_set (extents_of (Some x)) k e) same) ∙ set_four first (all_extents heads) k e less
one_set (o ∷ heads) (suc f) k h new e there less is =
    ap (λ es. extents_of o ++ es) (one_set heads f k h new e there less is)
    ∙ behind_four o (all_extents heads) (4 * f + k) e
    ∙ ap (λ i. slice_set (all_extents (o ∷ heads)) i e) (let same : suc (suc (suc (suc (4 * f + k)))) ≡ 4 * suc f + k = omega arith in same)

replaces : (area : Area) (heads : List (Option FileHead)) (f k : ℕ) (h new : FileHead) (e : Area) → Fit area heads → head_at heads f ≡ Some h → k < 4 → extents_of (Some new) ≡ slice_set (extents_of (Some h)) k e →
    ((n : ℕ) → covers e n ≡ true → is_free area (all_extents heads) n ≡ true) → Fit area (slice_set heads f (Some new))
replaces area heads f k h new e fit there less is unused = record {
  heads_long = length-set heads f (Some new) ∙ fit.heads_long;
  behind = fit.behind;
  each = subst (λ es. (i : ℕ) → i < 256 → FitsAt area es i) (sym (one_set heads f k h new e there less is))
      (made_fit area heads fit (slice_set (all_extents heads) (4 * f + k) e) (4 * f + k) e split (λ n has. free_is area (all_extents heads) n (unused n has)));
}
  where
    within : 4 * f + k < length (all_extents heads)
    within = let below = within_list heads f h there in let count = fit.heads_long in let all = long area heads fit in omega arith

    split : (i n : ℕ) → covers (slice_index_or (slice_set (all_extents heads) (4 * f + k) e) i nowhere) n ≡ true → (covers (slice_index_or (all_extents heads) i nowhere) n ≡ true) ⊎ ((i ≡ 4 * f + k) × (covers e n ≡ true))
    split i n has = elim (cases_eq i (4 * f + k)) [
      | inl here ↦ inr (here, sym (ap (λ x. covers x n) (ap (λ j. slice_index_or (slice_set (all_extents heads) (4 * f + k) e) j nowhere) here ∙ get_or-set_same (all_extents heads) (4 * f + k) e nowhere within)) ∙ has)
      | inr other ↦ inl (sym (ap (λ x. covers x n) (get_or-set_other (all_extents heads) (4 * f + k) i e nowhere other)) ∙ has)
    ]

pub keeps_heads : KeepsHeads
keeps_heads = record {
  creates = creates;
  creates_named = creates_named;
  marks = λ area heads f h units fit there. fit_still area heads f h (marked units h) fit there refl;
  marks_named = λ heads f h units once there. named_still heads f h (marked units h) once there refl;
  changes = λ area heads f h new fit there same. fit_still area heads f h new fit there (ap (λ (x : FileHead). extents_of (Some x)) (sym same.is));
  stays = fit_still;
  replaces = replaces;
  changes_named = λ heads f h new once there same. named_still heads f h new once there (ap (λ (x : FileHead). x.name) same.is);
  stays_named = named_still;
}
