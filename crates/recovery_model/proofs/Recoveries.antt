-- A recovery that is not refused gives the records of its moment.
use Rattle.std.proofs.Common.{◌≡◌, ℕ, Bool, true, false, Option, Some, None, refl, sym, ◌∙◌, ap, subst}
use Rattle.std.specs.Prelude.{◌≤◌, not, nat_lt}
use Rattle.std.proofs.lemmas.Bool.{ltb-false}
use Rattle.unit_laws.specs.vms_model.Ids.{Id}
use Rattle.unit_laws.specs.records_model.History.{records}
use Rattle.recovery_model.specs.Journal.{Changed, Settled, rolled_back}
use Rattle.recovery_model.specs.Timeline.{records_at}
use Rattle.recovery_model.specs.File.{ImageJournal, Save, FileState, all_of, IsCovering, IsStill, created}
use Rattle.recovery_model.specs.Opening.{as_found}
use Rattle.recovery_model.specs.Recovery.{Way, Forward, Backward, Refusal, NoJournal, MomentsMissing, first_of, refused_if, no_journal, in_use, no_save, too_early, positions_missing, refusal, Covers, IsUser, rolled_on, rolled, records_by}
use Rattle.recovery_model.specs.Laws.{Recovers, FoundRecovers, CreatedRecovers, LeftIsFound, CreatedIsFound, StaysTold, FoundStaysTold, CreatedStaysTold, FoundHasRoom, CreatedHasRoom, SizesAgree}
use Rattle.recovery_model.proofs.Covering.{Reaches, SaveGives, Kept}
use Rattle.recovery_model.proofs.OpeningLemmas.{found_keeps}
use Rattle.recovery_model.proofs.HoldLemmas.{Holds, acts_hold, found_holds, created_holds, left_found}
use Rattle.recovery_model.proofs.StatementLemmas.{still_stands, room_suffices}

pub neither : (a b : Option Refusal) → first_of a b ≡ None → (a ≡ None) × (b ≡ None)
neither None b e = (refl, e)
neither (Some x) b e = let no : ⊥ = cc in absurd no

pub unrefused : (b : Bool) (r : Refusal) → refused_if b r ≡ None → b ≡ false
unrefused true r e = let no : ⊥ = cc in absurd no
unrefused false r e = refl

pub on_if : (b : Bool) → not b ≡ false → b ≡ true
on_if true e = refl
on_if false e = let no : ⊥ = cc in absurd no

pub reaches : (until : Option ℕ) (v : Save) → too_early until (Some v) ≡ None → Reaches v.moment until
reaches None v e = tt
reaches (Some u) v e = ltb-false u v.moment (unrefused _ _ e)

pub covers : (j : ImageJournal) (v : Save) → positions_missing j (Some v) ≡ None → IsCovering j v
covers j v e = ltb-false v.position j.first (unrefused _ _ e)

by_save : (may : Id → Bool) (g : ℕ) (f : FileState) (until : Option ℕ) (save : Option Save) → SaveGives may g f.ai save f.timeline → f.ai.on ≡ true → no_save save ≡ None → too_early until save ≡ None → positions_missing f.ai save ≡ None →
    rolled_on until save f ≡ records_at f.timeline until
by_save may g f until None w on a b c = let no : ⊥ = cc in absurd no
by_save may g f until (Some v) w on a b c = (w.1 on (covers f.ai v c)).gives until (reaches until v b)

-- what is there where the journals and the save reach a moment
pub forward_parts : (f : FileState) (until : Option ℕ) → Covers (Forward until) f → (f.ai.on ≡ true) × (no_save f.save ≡ None) × (too_early until f.save ≡ None) × (positions_missing f.ai f.save ≡ None)
forward_parts f until e =
    let a = neither (no_journal f.ai) (first_of (no_save f.save) (first_of (too_early until f.save) (positions_missing f.ai f.save))) e in
    let b = neither (no_save f.save) (first_of (too_early until f.save) (positions_missing f.ai f.save)) a.1 in
    let c = neither (too_early until f.save) (positions_missing f.ai f.save) b.1 in
    (on_if f.ai.on (unrefused (not f.ai.on) NoJournal a.0), b.0, c.0, c.1)

pub backward_parts : (f : FileState) (until : ℕ) → Covers (Backward until) f → (f.bi.on ≡ true) × (f.bi_since ≤ until)
backward_parts f until e =
    let a = neither (no_journal f.bi) (refused_if (nat_lt until f.bi_since) (MomentsMissing until f.bi_since)) e in
    (on_if f.bi.on (unrefused (not f.bi.on) NoJournal a.0), ltb-false until f.bi_since (unrefused (nat_lt until f.bi_since) (MomentsMissing until f.bi_since) a.1))

forward_covered : (may : Id → Bool) (g : ℕ) (f : FileState) (until : Option ℕ) → Kept may g f → Covers (Forward until) f → rolled (Forward until) f ≡ records_by (Forward until) f
forward_covered may g f until w e = let x = forward_parts f until e in by_save may g f until f.save w.save x.0 x.1 x.2 x.3

-- from what has been committed
backward_covered : (may : Id → Bool) (g : ℕ) (f : FileState) (until : ℕ) → Kept may g f → Covers (Backward until) f → rolled_back until (all_of f.bi.entries) (records f.timeline.history) ≡ records_by (Backward until) f
backward_covered may g f until w e = let x = backward_parts f until e in (w.bi x.0).gives until x.1

-- who uses the file refuses each recovery
used : (a b : Option Refusal) (s : Id) → first_of a (first_of (in_use (Some s)) b) ≡ None → ⊥
used None b s e = cc
used (Some r) b s e = cc

used_save : (a c b : Option Refusal) (s : Id) → first_of a (first_of c (first_of (in_use (Some s)) b)) ≡ None → ⊥
used_save None c b s e = used c b s e
used_save (Some r) c b s e = cc

pub unused : (way : Way) (user : Option Id) (f : FileState) → refusal way user f ≡ None → (user ≡ None) × Covers way f
unused (Forward until) None f e = (refl, e)
unused (Backward until) None f e = (refl, e)
unused (Forward until) (Some s) f e = absurd (used_save (no_journal f.ai) (no_save f.save) (first_of (too_early until f.save) (positions_missing f.ai f.save)) s e)
unused (Backward until) (Some s) f e = absurd (used (no_journal f.bi) (refused_if (nat_lt until f.bi_since) (MomentsMissing until f.bi_since)) s e)

recovers_unused : (may : Id → Bool) (g : ℕ) (f : FileState) → Kept may g f → IsStill f → (way : Way) → Covers way f → rolled way f ≡ records_by way f
recovers_unused may g f w still_now (Forward until) e = forward_covered may g f until w e
recovers_unused may g f w still_now (Backward until) e = ap (rolled_back until (all_of f.bi.entries)) (still_stands f w.sound.one still_now) ∙ backward_covered may g f until w e

pub recovers : (may : Id → Bool) (g : ℕ) (f : FileState) → Kept may g f → Recovers f
recovers may g f w way user is e =
    let x = unused way user f e in
    recovers_unused may g f w (subst (λ u. IsUser u f) x.0 is) way x.1

-- The next run is told the same.

rolled_same : (n : ℕ) (e : FileState) (until : Option ℕ) (sv : Option Save) → rolled_on until sv (as_found n e) ≡ rolled_on until sv e
rolled_same n e until None = refl
rolled_same n e until (Some v) = refl

stays : (may next : Id → Bool) (n : ℕ) (e : FileState) → Kept may n e → Kept next n (as_found n e) → (way : Way) → Covers way e → records_by way (as_found n e) ≡ records_by way e
stays may next n e w k (Forward until) c = sym (forward_covered next n (as_found n e) until k c) ∙ rolled_same n e until e.save ∙ forward_covered may n e until w c
stays may next n e w k (Backward until) c = sym (backward_covered next n (as_found n e) until k c) ∙ backward_covered may n e until w c

covers_too : (n : ℕ) (e : FileState) (way : Way) → Covers way e → Covers way (as_found n e)
covers_too n e (Forward until) c = c
covers_too n e (Backward until) c = c

abbrev none_waits : Id → Bool
none_waits s = false

stays_told : (may : Id → Bool) (n : ℕ) (e : FileState) → Holds may n e → StaysTold n e
stays_told may n e w way c = (
  covers_too n e way c,
  stays may none_waits n e w.kept (found_keeps none_waits none_waits n (as_found n e) (λ s on. let no : ⊥ = cc in absurd no) (left_found may none_waits n e (λ s on. let no : ⊥ = cc in absurd no) w)) way c,
)

-- The laws.

pub found_recovers : FoundRecovers
found_recovers may waits acts g f n e a c l = recovers may n e (acts_hold may acts g f n e l (found_holds may waits g f c a)).kept

pub created_recovers : CreatedRecovers
created_recovers may acts past g n e l = recovers may n e (acts_hold may acts g (created g past) n e l (created_holds may g past)).kept

pub left_is_found : LeftIsFound
left_is_found may waits next acts g f n e a c m l = left_found may next n e m (acts_hold may acts g f n e l (found_holds may waits g f c a))

pub created_is_found : CreatedIsFound
created_is_found may next acts past g n e m l = left_found may next n e m (acts_hold may acts g (created g past) n e l (created_holds may g past))

pub found_stays_told : FoundStaysTold
found_stays_told may waits acts g f n e a c l = stays_told may n e (acts_hold may acts g f n e l (found_holds may waits g f c a))

pub created_stays_told : CreatedStaysTold
created_stays_told may acts past g n e l = stays_told may n e (acts_hold may acts g (created g past) n e l (created_holds may g past))

pub found_has_room : FoundHasRoom
found_has_room may waits acts g f n e a c l = let w = acts_hold may acts g f n e l (found_holds may waits g f c a) in room_suffices n e w.kept.sound.one w.ordered

pub created_has_room : CreatedHasRoom
created_has_room may acts past g n e l = let w = acts_hold may acts g (created g past) n e l (created_holds may g past) in room_suffices n e w.kept.sound.one w.ordered

pub sizes : SizesAgree
sizes tid file (Changed s k v) = refl
sizes tid file (Settled s outcome t) = refl
