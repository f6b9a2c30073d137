-- Steps that write only some blocks.
use Rattle.std.proofs.Common.{◌≡◌, inl, inr, ⊎_elim, ℕ, Bool, true, false, List, [], ◌∷◌, ◌+◌, ◌≤◌, Result, length, set, Option, Some, None, option_map, MatchOption, IfSome, IsSomeAnd, is_some, refl, sym, ◌∙◌, ap, subst, arith, length-set, get_or-set_other}
use Rattle.block_disk.specs.Blocks.{has_number, with_number, SameBut}
use Rattle.block_disk.specs.Disk.{DiskState, put, answered, is_failed, is_stopped, IsPowered, MayLeave}
use Rattle.block_disk.specs.declared.disk.DiskErr.{DiskErr}
use Rattle.block_disk.specs.Counts.{counted}
use Rattle.std.proofs.lemmas.Bool.Decides.{nat_tests}
use Rattle.block_disk.proofs.Laid.{has_number-with_number}
use Rattle.careful_write.specs.Content.{content_of}
use Rattle.careful_write.specs.Load.{fitting}
use Rattle.careful_write.specs.State.{Leaves}
use Rattle.careful_write.specs.Steps.{AgreesOff, Touches, Counts, Quiet}

pub touches_nothing : (p : ℕ → Bool) (s : DiskState) → Touches p s s
touches_nothing p s = record { pending = λ n has. inl has; seen = same s.seen }
  where
    same : (o : Option (List (List ℕ))) → MatchOption o (o ≡ None) (λ b. IsSomeAnd o (AgreesOff p b))
    same None = refl
    same (Some b) = record { size = refl; others = λ n off. refl }

apart : (p : ℕ → Bool) (n m : ℕ) → p n ≡ true → p m ≡ false → m ≡ n → ⊥
apart p n m on off is = let both : true ≡ false = sym on ∙ ap p (sym is) ∙ off in absurd (cc)

agrees_set : (p : ℕ → Bool) (n : ℕ) (any : List ℕ) (b c : List (List ℕ)) → p n ≡ true → AgreesOff p b c → AgreesOff p b (set c n any)
agrees_set p n any b c on agrees = record {
  size = length-set c n any ∙ agrees.size;
  others = λ m off. get_or-set_other c n m any [] (apart p n m on off) ∙ agrees.others m off;
}

pub touches_put : (p : ℕ → Bool) (n : ℕ) (any : List ℕ) (s0 s new : DiskState) → Touches p s0 s → p n ≡ true → new.pending ≡ with_number n s.pending → new.seen ≡ option_map (λ bs. set bs n any) s.seen → Touches p s0 new
touches_put p n any s0 s new touched on pending seen = record {
  pending = λ m has. ⊎_elim (λ is. inr (ap p (sym is) ∙ on)) (touched.pending m) (has_number-with_number m n s.pending (sym (ap (has_number m) pending) ∙ has));
  seen = subst (λ o. MatchOption s0.seen (o ≡ None) (λ b. IsSomeAnd o (AgreesOff p b))) (sym seen) (both s0.seen s.seen touched.seen);
}
  where
    both : (o0 o : Option (List (List ℕ))) → MatchOption o0 (o ≡ None) (λ b. IsSomeAnd o (AgreesOff p b)) → MatchOption o0 (option_map (λ bs. set bs n any) o ≡ None) (λ b. IsSomeAnd (option_map (λ bs. set bs n any) o) (AgreesOff p b))
    both None o none = ap (option_map (λ bs. set bs n any)) none
    both (Some b) None h = h
    both (Some b) (Some c) h = agrees_set p n any b c on h

-- what is settled touches no more
pub touches_settled : (p : ℕ → Bool) (s0 s new : DiskState) → Touches p s0 s → new.pending ≡ [] → new.seen ≡ s.seen → Touches p s0 new
touches_settled p s0 s new touched pending seen = record {
  pending = λ m has. absurd (none m (sym (ap (has_number m) pending) ∙ has));
  seen = subst (λ o. MatchOption s0.seen (o ≡ None) (λ b. IsSomeAnd o (AgreesOff p b))) (sym seen) touched.seen;
}
  where
    none : (m : ℕ) → has_number m [] ≡ true → ⊥
    none m has = absurd (cc)

-- the same state as far as blocks go
pub touches_same : (p : ℕ → Bool) (s0 s new : DiskState) → Touches p s0 s → new.pending ≡ s.pending → new.seen ≡ s.seen → Touches p s0 new
touches_same p s0 s new touched pending seen = record {
  pending = λ m has. touched.pending m (sym (ap (has_number m) pending) ∙ has);
  seen = subst (λ o. MatchOption s0.seen (o ≡ None) (λ b. IsSomeAnd o (AgreesOff p b))) (sym seen) touched.seen;
}

-- each image that a power loss may leave agrees with what was seen while nothing was pending
pub images_touched : (p : ℕ → Bool) (s0 s : DiskState) (Q : List (List ℕ) → Type 0) → Touches p s0 s → s0.pending ≡ [] → ((b image : List (List ℕ)) → s0.seen ≡ Some b → AgreesOff p b image → Q image) → (image : List (List ℕ)) → MayLeave s image → Q image
images_touched p s0 s Q touched settled each image left = cases s0.seen s.seen refl touched.seen left
  where
    off_pending : (n : ℕ) → p n ≡ false → (b : Bool) → has_number n s.pending ≡ b → has_number n s.pending ≡ false
    off_pending n off false is = is
    off_pending n off true is = ⊎_elim
        (λ had. let none : true ≡ false = sym had ∙ ap (has_number n) settled in absurd (cc))
        (λ on. let both : true ≡ false = sym on ∙ off in absurd (cc))
        (touched.pending n is)

    cases : (o0 o : Option (List (List ℕ))) → s0.seen ≡ o0 → MatchOption o0 (o ≡ None) (λ b. IsSomeAnd o (AgreesOff p b)) → IsSomeAnd o (λ seen. SameBut s.pending seen image) → Q image
    cases None None is h l = absurd l
    cases None (Some c) is h l = absurd (cc)
    cases (Some b) None is h l = absurd l
    cases (Some b) (Some c) is h l = each b image is (record {
      size = l.size ∙ h.size;
      others = λ n off. l.others n (off_pending n off _ refl) ∙ h.others n off;
    })

pub leaves_touched : (p : ℕ → Bool) (s0 s : DiskState) (P : List (List ℕ) → Type 0) → Touches p s0 s → s0.pending ≡ [] → ((b image : List (List ℕ)) → s0.seen ≡ Some b → AgreesOff p b image → (fitting image ≡ true) × P (content_of image)) → Leaves P s
leaves_touched p s0 s P touched settled each = images_touched p s0 s (λ image. (fitting image ≡ true) × P (content_of image)) touched settled each

-- what is told stays told where a block is put
pub told_put : (n : ℕ) (b : List ℕ) (s : DiskState) → is_some (put n b s).seen ≡ is_some s.seen
told_put n b s = go s.seen
  where
    go : (o : Option (List (List ℕ))) → is_some (option_map (λ bs. set bs n b) o) ≡ is_some o
    go None = refl
    go (Some bs) = refl

-- an answer after quiet steps
pub quiet_put : (n : ℕ) (b : List ℕ) (s0 s new : DiskState) → Quiet s0 s → new ≡ put n b s → Quiet s0 new
quiet_put n b s0 s new quiet is = record {
  size = ap (λ (t : DiskState). t.size) is ∙ quiet.size;
  calls = ap (λ (t : DiskState). t.calls) is ∙ quiet.calls;
  faults = ap (λ (t : DiskState). t.faults) is ∙ quiet.faults;
  stops = ap (λ (t : DiskState). t.stops) is ∙ quiet.stops;
  told = ap (λ (t : DiskState). is_some t.seen) is ∙ told_put n b s ∙ quiet.told;
}

pub counts_put : {T : Type 0} (r : Result T DiskErr) (n : ℕ) (b : List ℕ) (s0 s new : DiskState) → Quiet s0 s → new ≡ answered r (put n b s) → Counts r s0 new
counts_put r n b s0 s new quiet is = record {
  size = ap (λ (t : DiskState). t.size) is ∙ quiet.size;
  calls = ap (λ (t : DiskState). t.calls) is ∙ quiet.calls;
  faults = ap (λ (t : DiskState). t.faults) is ∙ ap (counted (is_failed r)) quiet.faults;
  stops = ap (λ (t : DiskState). t.stops) is ∙ ap (counted (is_stopped r)) quiet.stops;
  told = ap (λ (t : DiskState). is_some t.seen) is ∙ told_put n b s ∙ quiet.told;
}

pub counts_answer : {T : Type 0} (r : Result T DiskErr) (s0 s new : DiskState) → Quiet s0 s → new ≡ answered r s → Counts r s0 new
counts_answer r s0 s new quiet is = record {
  size = ap (λ (t : DiskState). t.size) is ∙ quiet.size;
  calls = ap (λ (t : DiskState). t.calls) is ∙ quiet.calls;
  faults = ap (λ (t : DiskState). t.faults) is ∙ ap (counted (is_failed r)) quiet.faults;
  stops = ap (λ (t : DiskState). t.stops) is ∙ ap (counted (is_stopped r)) quiet.stops;
  told = ap (λ (t : DiskState). is_some t.seen) is ∙ quiet.told;
}

pub touches_write : (p : ℕ → Bool) (n : ℕ) (b : List ℕ) (s0 s new : DiskState) → Touches p s0 s → p n ≡ true → new ≡ put n b s → Touches p s0 new
touches_write p n b s0 s new touched on is = touches_put p n b s0 s new touched on (ap (λ (t : DiskState). t.pending) is) (ap (λ (t : DiskState). t.seen) is)

pub touches_failed : {T : Type 0} (r : Result T DiskErr) (p : ℕ → Bool) (n : ℕ) (b : List ℕ) (s0 s new : DiskState) → Touches p s0 s → p n ≡ true → new ≡ answered r (put n b s) → Touches p s0 new
touches_failed r p n b s0 s new touched on is = touches_put p n b s0 s new touched on (ap (λ (t : DiskState). t.pending) is) (ap (λ (t : DiskState). t.seen) is)

with_number_step : (n m : ℕ) (ms : List ℕ) → length (with_number n ms) ≤ length ms + 1 → length (with_number n (m ∷ ms)) ≤ length (m ∷ ms) + 1
with_number_step n m ms later = grind (arith, nat_tests)

pub length-with_number : (n : ℕ) (ms : List ℕ) → length (with_number n ms) ≤ length ms + 1
length-with_number n [] = omega arith
length-with_number n (m ∷ ms) = with_number_step n m ms (length-with_number n ms)

pub touches_then : (p q : ℕ → Bool) (s0 s1 s2 : DiskState) → Touches p s0 s1 → Touches q s1 s2 → ((n : ℕ) → q n ≡ true → p n ≡ true) → Touches p s0 s2
touches_then p q s0 s1 s2 first second within = record {
  pending = λ n has. ⊎_elim (first.pending n) (λ on. inr (within n on)) (second.pending n has);
  seen = both s0.seen s1.seen s2.seen first.seen second.seen;
}
  where
    off : (n : ℕ) → p n ≡ false → (b : Bool) → q n ≡ b → q n ≡ false
    off n out false is = is
    off n out true is = let clash : true ≡ false = sym (within n is) ∙ out in absurd (cc)

    both : (o0 o1 o2 : Option (List (List ℕ))) → MatchOption o0 (o1 ≡ None) (λ b. IsSomeAnd o1 (AgreesOff p b)) → MatchOption o1 (o2 ≡ None) (λ b. IsSomeAnd o2 (AgreesOff q b)) → MatchOption o0 (o2 ≡ None) (λ b. IsSomeAnd o2 (AgreesOff p b))
    both None None o2 h k = k
    both None (Some b) o2 h k = absurd (cc)
    both (Some a) None o2 h k = absurd h
    both (Some a) (Some b) None h k = k
    both (Some a) (Some b) (Some c) h k = record { size = k.size ∙ h.size; others = λ n out. k.others n (off n out _ refl) ∙ h.others n out }

-- more blocks may have been written
pub touches_wide : (p q : ℕ → Bool) (s0 s : DiskState) → Touches p s0 s → ((n : ℕ) → p n ≡ true → q n ≡ true) → Touches q s0 s
touches_wide p q s0 s touched within = touches_then q p s0 s0 s (touches_nothing q s0) touched within

-- where nothing was pending, what is pending was written
pub pending_touched : (p : ℕ → Bool) (s0 s : DiskState) (n : ℕ) → Touches p s0 s → s0.pending ≡ [] → p n ≡ false → has_number n s.pending ≡ true → ⊥
pending_touched p s0 s n touched settled off has = ⊎_elim
    (λ had. let clash : true ≡ false = sym had ∙ ap (has_number n) settled in absurd (cc))
    (λ on. let clash : true ≡ false = sym on ∙ off in absurd (cc))
    (touched.pending n has)

with_same : (n m : ℕ) (ms : List ℕ) → has_number n (with_number n ms) ≡ true → has_number n (with_number n (m ∷ ms)) ≡ true
with_same n m ms later = grind (arith, nat_tests)

pub has_written : (n : ℕ) (ms : List ℕ) → has_number n (with_number n ms) ≡ true
has_written n [] = grind (arith, nat_tests)
has_written n (m ∷ ms) = with_same n m ms (has_written n ms)

with_still : (n k m : ℕ) (ms : List ℕ) → has_number n (m ∷ ms) ≡ true → (has_number n ms ≡ true → has_number n (with_number k ms) ≡ true) → has_number n (with_number k (m ∷ ms)) ≡ true
with_still n k m ms has later = grind (arith, nat_tests)

-- what is pending stays so while other blocks are written
pub has_still : (n k : ℕ) (ms : List ℕ) → has_number n ms ≡ true → has_number n (with_number k ms) ≡ true
has_still n k [] has = absurd (cc)
has_still n k (m ∷ ms) has = with_still n k m ms has (has_still n k ms)

-- what every image has, the disk has after `power`
pub powered : (P : List (List ℕ) → Type 0) (old new : DiskState) → Leaves P old → IsPowered old new → IfSome new.seen (λ blocks. (fitting blocks ≡ true) × P (content_of blocks))
powered P old new leaves power = cases old.seen new.seen refl refl power.image
  where
    cases : (o n : Option (List (List ℕ))) → old.seen ≡ o → new.seen ≡ n → MatchOption o (n ≡ None) (λ seen. IsSomeAnd n (SameBut old.pending seen)) → IfSome new.seen (λ blocks. (fitting blocks ≡ true) × P (content_of blocks))
    cases None n is now h = subst (λ (o : Option (List (List ℕ))). IfSome o (λ blocks. (fitting blocks ≡ true) × P (content_of blocks))) (sym (now ∙ h)) tt
    cases (Some b) None is now h = absurd h
    cases (Some b) (Some c) is now h =
        subst (λ (o : Option (List (List ℕ))). IfSome o (λ blocks. (fitting blocks ≡ true) × P (content_of blocks))) (sym now)
        (leaves c (subst (λ (o : Option (List (List ℕ))). IsSomeAnd o (λ seen. SameBut old.pending seen c)) (sym is) h))
