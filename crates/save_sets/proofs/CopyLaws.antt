-- Blocks copied one after another, and group after group.
use Rattle.std.proofs.Common.{◌≡◌, ◌≢◌, ◌⊎◌, ⊎_elim, inl, inr, ℕ, ◌<◌, ◌≤◌, ◌+◌, ◌-◌, ◌&&◌, Bool, true, false, List, [], length, set, nat_le, nat_lt, Option, Some, None, IfSome, MatchOption, IsSomeAnd, option_map, Result, Ok, Err, OnOk, OnErr, refl, sym, ap, subst, ◌∙◌, arith, get_or-set_same, get_or-set_other, length-set}
use Rattle.std.proofs.lemmas.Bool.Decides.{nat_tests}
use Rattle.std.proofs.lemmas.Bool.{cases_eq, cases_lt}
use Rattle.block_disk.specs.Blocks.{block_at, with_number}
use Rattle.block_disk.specs.Disk.{DiskState}
use Rattle.careful_write.specs.Content.{content_of}
use Rattle.careful_write.specs.Down.{answered}
use Rattle.careful_write.specs.declared.down.Down.{Down}
use Rattle.careful_write.specs.State.{IsEither, IsReady, IsIdle, Leaves, OneContent, StoreState, content}
use Rattle.careful_write.specs.Steps.{AgreesOff}
use Rattle.careful_write.proofs.Touched.{length-with_number}
use Rattle.change_set.specs.Files.{LeavesOut}
use Rattle.change_set.proofs.Extents.{agrees_trans}
use Rattle.save_sets.specs.Copies.{AreApart, is_within, Copies, CopiesTo}

-- Tests of ranges.

off_range : (first count n : ℕ) → is_within first count n ≡ false → (n < first) ⊎ (first + count ≤ n)
off_range first count n off = grind (arith, nat_tests)

outside : (first count n : ℕ) → (n < first) ⊎ (first + count ≤ n) → is_within first count n ≡ false
outside first count n (inl off) = grind (arith, nat_tests)
outside first count n (inr off) = grind (arith, nat_tests)

-- what lies outside a run lies outside a part of it
pub fewer_off : (to count done part n : ℕ) → done + part ≤ count → is_within to count n ≡ false → is_within (to + done) part n ≡ false
fewer_off to count done part n le off = outside (to + done) part n (⊎_elim (λ below. inl (omega arith)) (λ above. inr (omega arith)) (off_range to count n off))

pub front_off : (to count part n : ℕ) → part ≤ count → is_within to count n ≡ false → is_within to part n ≡ false
front_off to count part n le off = outside to part n (⊎_elim (λ below. inl (omega arith)) (λ above. inr (omega arith)) (off_range to count n off))

-- a block of the source lies outside of the target's front
source_off : (from to count part n : ℕ) → AreApart from to count → n < count → part ≤ count → is_within to part (from + n) ≡ false
source_off from to count part n (inl apart) below le = outside to part (from + n) (inl (omega arith))
source_off from to count part n (inr apart) below le = outside to part (from + n) (inr (omega arith))

-- Copies.

no_copies : (from to : ℕ) (c : List (List ℕ)) → Copies from to 0 c c
no_copies from to c = record { copied = λ i below. absurd (omega arith); rest = record { size = refl; others = λ n off. refl } }

pub none_copied : (from to : ℕ) (told : Option (List (List ℕ))) → CopiesTo from to 0 told told
none_copied from to None = refl
none_copied from to (Some c) = no_copies from to c

one_more : (from to count n : ℕ) (before c : List (List ℕ)) → n < count → AreApart from to count → to + count ≤ length c → Copies from to n before c → Copies from to (n + 1) before (set c (to + n) (block_at c (from + n)))
one_more from to count n before c below apart within old = record {
  copied = λ i under. ⊎_elim
      (λ here.
      get_here i here ∙ old.rest.others (from + n) (source_off from to count n n apart below (omega arith)) ∙ ap (λ k. block_at before (from + k)) (sym here))
      (λ other. get_or-set_other c (to + n) (to + i) (block_at c (from + n)) [] (λ e. other (omega arith)) ∙ old.copied i (omega arith))
      (cases_eq i n);
  rest = record {
    size = length-set c (to + n) (block_at c (from + n)) ∙ old.rest.size;
    others = λ m off.
        let other : m ≢ to + n = ⊎_elim (λ low e. omega arith) (λ high e. omega arith) (off_range to (n + 1) m off) in
        get_or-set_other c (to + n) m (block_at c (from + n)) [] other ∙ old.rest.others m (front_off to (n + 1) n m (omega arith) off);
  };
}
  where
    get_here : (i : ℕ) → i ≡ n → block_at (set c (to + n) (block_at c (from + n))) (to + i) ≡ block_at c (from + n)
    get_here i e = ap (λ k. block_at (set c (to + n) (block_at c (from + n))) (to + k)) e ∙ get_or-set_same c (to + n) (block_at c (from + n)) [] (omega arith)

pub more_copied : (from to count n : ℕ) (old now next : Option (List (List ℕ))) → n < count → AreApart from to count → IfSome now (λ c. to + count ≤ length c) → CopiesTo from to n old now →
    next ≡ option_map (λ c. set c (to + n) (block_at c (from + n))) now → CopiesTo from to (n + 1) old next
more_copied from to count n None now next below apart within so_far is = is ∙ ap (option_map (λ c. set c (to + n) (block_at c (from + n)))) so_far
more_copied from to count n (Some b) None next below apart within so_far is = absurd so_far
more_copied from to count n (Some b) (Some c) next below apart within so_far is =
    subst (λ (x : Option (List (List ℕ))). IsSomeAnd x (Copies from to (n + 1) b)) (sym is) (one_more from to count n b c below apart within so_far)

-- one run behind another
both : (from to count done part : ℕ) (a b c : List (List ℕ)) → AreApart from to count → done + part ≤ count → Copies from to done a b → Copies (from + done) (to + done) part b c → Copies from to (done + part) a c
both from to count done part a b c apart le first second = record {
  copied = λ i below. ⊎_elim
      (λ front. second.rest.others (to + i) (outside (to + done) part (to + i) (inl (omega arith))) ∙ first.copied i front)
      (λ behind.
      let place : to + done + (i - done) ≡ to + i = omega arith in
      let source : from + done + (i - done) ≡ from + i = omega arith in
      ap (block_at c) (sym place) ∙ second.copied (i - done) (omega arith) ∙ ap (block_at b) source ∙ first.rest.others (from + i) (source_off from to count done i apart (omega arith) (omega arith)))
      (cases_lt i done);
  rest = record {
    size = second.rest.size ∙ first.rest.size;
    others = λ n off. second.rest.others n (fewer_off to (done + part) done part n (omega arith) off) ∙ first.rest.others n (front_off to (done + part) done n (omega arith) off);
  };
}

pub both_copied : (from to count done part : ℕ) (old now next : Option (List (List ℕ))) → AreApart from to count → done + part ≤ count → CopiesTo from to done old now → CopiesTo (from + done) (to + done) part now next →
    CopiesTo from to (done + part) old next
both_copied from to count done part None now next apart le first second = subst (λ (x : Option (List (List ℕ))). CopiesTo (from + done) (to + done) part x next) first second
both_copied from to count done part (Some a) None next apart le first second = absurd first
both_copied from to count done part (Some a) (Some b) None apart le first second = absurd second
both_copied from to count done part (Some a) (Some b) (Some c) apart le first second = both from to count done part a b c apart le first second

-- What a group may leave.

agrees_wider : (p q : ℕ → Bool) (a b : List (List ℕ)) → ((n : ℕ) → q n ≡ false → p n ≡ false) → AgreesOff p a b → AgreesOff q a b
agrees_wider p q a b less agrees = record { size = agrees.size; others = λ n off. agrees.others n (less n off) }

either : (p : ℕ → Bool) (from to count : ℕ) (told now : Option (List (List ℕ))) (c : List (List ℕ)) → CopiesTo from to count told now → IsEither told now c → IfSome told (λ before. AgreesOff (is_within to count) before c)
either p from to count None now c copies e = tt
either p from to count (Some a) None c copies e = absurd copies
either p from to count (Some a) (Some b) c copies e = ⊎_elim
    (λ before. let same : c ≡ a = cc in record { size = ap length same; others = λ k off. ap (λ x. block_at x k) same })
    (λ after. let same : c ≡ b = cc in subst (AgreesOff (is_within to count) a) (sym same) copies.rest)
    e

-- a group that was cut short has copied all its blocks or none
pub group_leaves : (from to count : ℕ) (old now : Option (List (List ℕ))) (disk : DiskState) → CopiesTo from to count old now → Leaves (IsEither old now) disk → LeavesOut (is_within to count) old disk
group_leaves from to count old now disk copies leaves = λ image left. let at = leaves image left in (at.0, either (is_within to count) from to count old now (content_of image) copies at.1)

same_content : (p : ℕ → Bool) (told : Option (List (List ℕ))) (c : List (List ℕ)) → Some c ≡ told → IfSome told (λ before. AgreesOff p before c)
same_content p None c is = tt
same_content p (Some a) c is = let same : c ≡ a = cc in record { size = ap length same; others = λ k off. ap (λ x. block_at x k) same }

-- an answer that wrote nothing has changed nothing
pub answer_leaves : {T : Type 0} (p : ℕ → Bool) (r : Result T Down) (s : StoreState) (disk : DiskState) → OneContent → IsIdle s → disk ≡ answered r s.disk → LeavesOut p s.current disk
answer_leaves p r s disk one idle is = subst (LeavesOut p s.current) (sym is) (λ image left.
    let at = one (record s { disk = answered r s.disk }) (record { fitting = idle.ready.fitting; settled = idle.ready.settled; closed = idle.ready.closed }) image left in
    (at.0, same_content p s.current (content_of image) (at.1 ∙ sym idle.current)))

leaves_off : (from to count done part : ℕ) (a b : List (List ℕ)) (disk : DiskState) → done + part ≤ count → Copies from to done a b → LeavesOut (is_within (to + done) part) (Some b) disk → LeavesOut (is_within to count) (Some a) disk
leaves_off from to count done part a b disk le copies leaves = λ image left.
    let at = leaves image left in (
      at.0,
      agrees_trans (is_within to count) a b (content_of image)
          (agrees_wider (is_within to done) (is_within to count) a b (λ n off. front_off to count done n (omega arith) off) copies.rest)
          (agrees_wider (is_within (to + done) part) (is_within to count) b (content_of image) (λ n off. fewer_off to count done part n le off) at.1),
    )

-- what is left where the disk goes down in a later group
pub later_leaves : (from to count done part : ℕ) (old now : Option (List (List ℕ))) (disk : DiskState) → done + part ≤ count → CopiesTo from to done old now → LeavesOut (is_within (to + done) part) now disk → LeavesOut (is_within to count) old disk
later_leaves from to count done part None now disk le copies leaves = λ image left. ((leaves image left).0, tt)
later_leaves from to count done part (Some a) None disk le copies leaves = absurd copies
later_leaves from to count done part (Some a) (Some b) disk le copies leaves = leaves_off from to count done part a b disk le copies leaves

-- Numbers of blocks, from the first of the content on.

pub low : (at part : ℕ) → 518 ≤ at → at + part - 518 ≡ at - 518 + part
low at part from = omega arith

pub apart_low : (from to count : ℕ) → 518 ≤ from → 518 ≤ to → AreApart from to count → AreApart (from - 518) (to - 518) count
apart_low from to count a b (inl apart) = inl (omega arith)
apart_low from to count a b (inr apart) = inr (omega arith)

-- Answers.

pub on_err_so : {T E P : Type 0} (r : Result T E) → P → OnErr r P
on_err_so (Ok x) p = tt
on_err_so (Err e) p = p

-- at most one number more is staged
pub few_staged : {T E : Type 0} (r : Result T E) (n : ℕ) (old new : StoreState) (told : Option (List (List ℕ))) → OnOk r (new ≡ record old { current = told; touched = with_number n old.touched }) → OnErr r (new ≡ old) → length new.touched ≤ length old.touched + 1
few_staged (Ok x) n old new told is same = let e = ap (λ (s : StoreState). length s.touched) is in omega (arith, e, length-with_number n old.touched)
few_staged (Err x) n old new told is same = let e = ap (λ (s : StoreState). length s.touched) same in omega (arith, e)
