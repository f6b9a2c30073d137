-- In no part of a journal from the front are there too many units, or too many changes of one.
use Rattle.std.proofs.Common.{◌≡◌, ◌≤◌, ℕ, zero, suc, ◌+◌, List, [], ◌∷◌, ◌++◌, length, Bool, true, false, cond, Option, Some, None, refl, sym, ◌∙◌, ap, subst, arith}
use Rattle.std.specs.Option.{option_map}
use Rattle.std.proofs.lemmas.Bool.{cond_both}
use Rattle.vms_model.specs.Ids.{Id}
use Rattle.vms_model.specs.Limits.{change_limit}
use Rattle.run_model.specs.records_model.Records.{Change}
use Rattle.run_model.specs.records_model.History.{same_id}
use Rattle.run_model.specs.unit_laws.Units.{has_changes}
use Rattle.run_model.specs.unit_laws.Journal.{ChangeEntry, JournalEntry, PreparedEntry, RecoveryUnit, SettledEntry, entries_for, entries_from, find_unit, is_of_units, units_after, units_in, units_onto, with_one_change, with_prepared, without_unit}
use Rattle.run_model.specs.unit_laws.JournalLaws.{unit_or_new, with_more}
use Rattle.run_model.proofs.unit_laws.LiveLemmas.{clash, id_itself}
use Rattle.run_model.proofs.unit_laws.Tests.{passed, picked}
use Rattle.run_model.proofs.unit_laws.TrimLemmas.{changed_beside, changed_without, prepared_beside, prepared_without, settled_beside}
use Rattle.run_model.proofs.unit_laws.UnitLemmas.{found_changed, found_prepared, found_settled, is_prepared, onto_append, units_follow}
use Rattle.world_laws.specs.Ordered.{AreFew, AreFewOver}
use Rattle.world_laws.proofs.IdLemmas.{id_is}

none_few : AreFew []
none_few = record { changes = λ x u e. let none : ⊥ = cc in absurd none; units = omega arith }

-- Entries behind others.

few_behind : (us : List RecoveryUnit) (es : List JournalEntry) → AreFew us → AreFewOver us es → AreFew (units_onto us es)
few_behind us [] h k = h
few_behind us (e ∷ es) h k = few_behind (units_after e us) es k.0 k.1

-- behind all of them too
pub few_in : (es : List JournalEntry) → AreFewOver [] es → AreFew (units_in es)
few_in es k = few_behind [] es none_few k

few_append : (us : List RecoveryUnit) (es fs : List JournalEntry) → AreFewOver us es → AreFewOver (units_onto us es) fs → AreFewOver us (es ++ fs)
few_append us [] fs h k = k
few_append us (e ∷ es) fs h k = (h.0, few_append (units_after e us) es fs h.1 k)

pub few_more : (es fs : List JournalEntry) → AreFewOver [] es → AreFewOver (units_in es) fs → AreFewOver [] (es ++ fs)
few_more es fs h k = few_append [] es fs h k

-- How often a branch is among units.

abbrev times : Id → List RecoveryUnit → ℕ
times x [] = 0
times x (u ∷ us) = cond (same_id x u.serial) (suc (times x us)) (times x us)

-- at least once
abbrev once : ℕ → ℕ
once zero = 1
once (suc n) = suc n

length_without : (x : Id) (us : List RecoveryUnit) → length us ≡ length (without_unit x us) + times x us
length_without x [] = refl
length_without x (u ∷ us) = step (same_id x u.serial) (length_without x us)
  where
    step : (at : Bool) → length us ≡ length (without_unit x us) + times x us → suc (length us) ≡ length (cond at (without_unit x us) (u ∷ without_unit x us)) + cond at (suc (times x us)) (times x us)
    step true later = omega (arith, later)
    step false later = omega (arith, later)

times_changed : (x tid : Id) (us : List RecoveryUnit) → times x (with_one_change tid x us) ≡ once (times x us)
times_changed x tid [] = picked (same_id x x) _ _ (id_itself x)
times_changed x tid (u ∷ us) = step (same_id x u.serial) refl (times_changed x tid us)
  where
    step : (at : Bool) → same_id x u.serial ≡ at → times x (with_one_change tid x us) ≡ once (times x us) → times x (cond at (with_more 1 u ∷ us) (u ∷ with_one_change tid x us)) ≡ once (cond at (suc (times x us)) (times x us))
    step true is later = picked (same_id x u.serial) _ _ is
    step false is later = passed (same_id x u.serial) _ _ is ∙ later

times_prepared : (x t : Id) (us : List RecoveryUnit) → times x (with_prepared t us) ≡ times x us
times_prepared x t [] = refl
times_prepared x t (u ∷ us) = step (same_id t u.serial) (times_prepared x t us)
  where
    step : (at : Bool) → times x (with_prepared t us) ≡ times x us → times x (cond at (is_prepared u ∷ us) (u ∷ with_prepared t us)) ≡ cond (same_id x u.serial) (suc (times x us)) (times x us)
    step true later = refl
    step false later = ap (λ (n : ℕ). cond (same_id x u.serial) (suc n) n) later

-- of units of which others are taken out, or make one change more
times_beside : (x t : Id) (us : List RecoveryUnit) → same_id x t ≡ false → times x (without_unit t us) ≡ times x us
times_beside x t [] other = refl
times_beside x t (u ∷ us) other = step (same_id t u.serial) (same_id x u.serial) refl refl (times_beside x t us other)
  where
    step : (a b : Bool) → same_id t u.serial ≡ a → same_id x u.serial ≡ b → times x (without_unit t us) ≡ times x us → times x (cond a (without_unit t us) (u ∷ without_unit t us)) ≡ cond b (suc (times x us)) (times x us)
    step true true is at later = clash (same_id x t) (subst (λ (r : Id). same_id x r ≡ true) (sym (id_is t u.serial is)) at) other
    step true false is at later = later
    step false true is at later = picked (same_id x u.serial) _ _ at ∙ ap suc later
    step false false is at later = passed (same_id x u.serial) _ _ at ∙ later

times_other : (x tid t : Id) (us : List RecoveryUnit) → same_id x t ≡ false → times x (with_one_change tid t us) ≡ times x us
times_other x tid t [] other = passed (same_id x t) _ _ other
times_other x tid t (u ∷ us) other = step (same_id t u.serial) (times_other x tid t us other)
  where
    step : (at : Bool) → times x (with_one_change tid t us) ≡ times x us → times x (cond at (with_more 1 u ∷ us) (u ∷ with_one_change tid t us)) ≡ cond (same_id x u.serial) (suc (times x us)) (times x us)
    step true later = refl
    step false later = ap (λ (n : ℕ). cond (same_id x u.serial) (suc n) n) later

times_none : (x : Id) (us : List RecoveryUnit) → times x (without_unit x us) ≡ 0
times_none x [] = refl
times_none x (u ∷ us) = step (same_id x u.serial) refl (times_none x us)
  where
    step : (at : Bool) → same_id x u.serial ≡ at → times x (without_unit x us) ≡ 0 → times x (cond at (without_unit x us) (u ∷ without_unit x us)) ≡ 0
    step true is later = later
    step false is later = passed (same_id x u.serial) _ _ is ∙ later

-- How many changes a branch has made.

abbrev count_in : Option RecoveryUnit → ℕ
count_in None = 0
count_in (Some u) = u.changes

count_more : (tid t : Id) (o : Option RecoveryUnit) → (unit_or_new tid t o).changes ≡ count_in o
count_more tid t None = refl
count_more tid t (Some u) = refl

count_prepared : (o : Option RecoveryUnit) → count_in (option_map is_prepared o) ≡ count_in o
count_prepared None = refl
count_prepared (Some u) = refl

-- Of two lists of units the second is the first but for one branch, which is in it no oftener, and with no more changes.
record HasLess (x : Id) (us vs : List RecoveryUnit) : Type 0 where
  others : without_unit x us ≡ without_unit x vs
  often : times x vs ≤ times x us
  count : count_in (find_unit x vs) ≤ count_in (find_unit x us)

less_few : (x : Id) (us vs : List RecoveryUnit) → HasLess x us vs → AreFew us → AreFew vs
less_few x us vs l h = record {
  changes = λ y u e. few y u (same_id y x) refl e;
  units = let a = length_without x us in let b = length_without x vs in let c = ap length l.others in let d = l.often in let old = h.units in omega (arith, a, b, c, d, old);
}
  where
    own : (o : Option RecoveryUnit) → find_unit x us ≡ o → count_in o ≤ change_limit
    own None e = omega arith
    own (Some u) e = h.changes x u e

    beside : (y : Id) (ws : List RecoveryUnit) → same_id y x ≡ false → find_unit y (without_unit x ws) ≡ find_unit y ws
    beside y ws other = found_settled y x ws ∙ passed (same_id y x) _ _ other

    few : (y : Id) (u : RecoveryUnit) (b : Bool) → same_id y x ≡ b → find_unit y vs ≡ Some u → u.changes ≤ change_limit
    few y u true t e =
        let is : find_unit x vs ≡ Some u = subst (λ (z : Id). find_unit z vs ≡ Some u) (id_is y x t) e in
        let less : u.changes ≤ count_in (find_unit x us) = subst (λ (o : Option RecoveryUnit). count_in o ≤ count_in (find_unit x us)) is l.count in
        let most = own (find_unit x us) refl in omega (arith, less, most)
    few y u false t e = h.changes y u (sym (beside y us t) ∙ ap (find_unit y) l.others ∙ beside y vs t ∙ e)

once_less : (m n : ℕ) → m ≤ n → once m ≤ once n
once_less zero zero l = omega arith
once_less zero (suc n) l = omega arith
once_less (suc m) zero l = absurd (omega (arith, l))
once_less (suc m) (suc n) l = l

-- a change more of the branch, or of another one
less_changed : (x tid t : Id) (us vs : List RecoveryUnit) (b : Bool) → same_id x t ≡ b → HasLess x us vs → HasLess x (with_one_change tid t us) (with_one_change tid t vs)
less_changed x tid t us vs true is l = subst (λ (y : Id). HasLess x (with_one_change tid y us) (with_one_change tid y vs)) (id_is x t is) (record {
  others = changed_without tid x us ∙ l.others ∙ sym (changed_without tid x vs);
  often = let a = times_changed x tid us in let b = times_changed x tid vs in let c = once_less (times x vs) (times x us) l.often in omega (arith, a, b, c);
  count = let a = made us in let b = made vs in let c = l.count in omega (arith, a, b, c);
})
  where
    made : (ws : List RecoveryUnit) → count_in (find_unit x (with_one_change tid x ws)) ≡ count_in (find_unit x ws) + 1
    made ws = ap count_in (found_changed x tid x ws ∙ picked (same_id x x) _ _ (id_itself x)) ∙ ap (λ (n : ℕ). n + 1) (count_more tid x (find_unit x ws))
less_changed x tid t us vs false other l = record {
  others = changed_beside x tid t us other ∙ ap (with_one_change tid t) l.others ∙ sym (changed_beside x tid t vs other);
  often = let a = times_other x tid t us other in let b = times_other x tid t vs other in let c = l.often in omega (arith, a, b, c);
  count = let a = same us in let b = same vs in let c = l.count in omega (arith, a, b, c);
}
  where
    same : (ws : List RecoveryUnit) → count_in (find_unit x (with_one_change tid t ws)) ≡ count_in (find_unit x ws)
    same ws = ap count_in (found_changed x tid t ws ∙ passed (same_id x t) _ _ other)

less_prepared : (x t : Id) (us vs : List RecoveryUnit) (b : Bool) → same_id x t ≡ b → HasLess x us vs → HasLess x (with_prepared t us) (with_prepared t vs)
less_prepared x t us vs b is l = record {
  others = others b is;
  often = let a = times_prepared x t us in let b = times_prepared x t vs in let c = l.often in omega (arith, a, b, c);
  count = let a = same us b is in let d = same vs b is in let c = l.count in omega (arith, a, d, c);
}
  where
    others : (b : Bool) → same_id x t ≡ b → without_unit x (with_prepared t us) ≡ without_unit x (with_prepared t vs)
    others true is = subst (λ (y : Id). without_unit x (with_prepared y us) ≡ without_unit x (with_prepared y vs)) (id_is x t is) (prepared_without x us ∙ l.others ∙ sym (prepared_without x vs))
    others false is = prepared_beside x t us is ∙ ap (with_prepared t) l.others ∙ sym (prepared_beside x t vs is)

    same : (ws : List RecoveryUnit) (b : Bool) → same_id x t ≡ b → count_in (find_unit x (with_prepared t ws)) ≡ count_in (find_unit x ws)
    same ws true is = ap count_in (found_prepared x t ws ∙ picked (same_id x t) _ _ is) ∙ count_prepared (find_unit x ws)
    same ws false is = ap count_in (found_prepared x t ws ∙ passed (same_id x t) _ _ is)

less_settled : (x t : Id) (us vs : List RecoveryUnit) (b : Bool) → same_id x t ≡ b → HasLess x us vs → HasLess x (without_unit t us) (without_unit t vs)
less_settled x t us vs true is l = subst (λ (y : Id). HasLess x (without_unit y us) (without_unit y vs)) (id_is x t is) (record {
  others = ap (without_unit x) l.others;
  often = let a = times_none x vs in omega (arith, a);
  count = let same = ap (λ (ws : List RecoveryUnit). count_in (find_unit x ws)) l.others in omega (arith, same);
})
less_settled x t us vs false other l = record {
  others = settled_beside x t us ∙ ap (without_unit t) l.others ∙ sym (settled_beside x t vs);
  often = let a = times_beside x t us other in let b = times_beside x t vs other in let c = l.often in omega (arith, a, b, c);
  count = let a = same us in let b = same vs in let c = l.count in omega (arith, a, b, c);
}
  where
    same : (ws : List RecoveryUnit) → count_in (find_unit x (without_unit t ws)) ≡ count_in (find_unit x ws)
    same ws = ap count_in (found_settled x t ws ∙ passed (same_id x t) _ _ other)

less_after : (x : Id) (e : JournalEntry) (us vs : List RecoveryUnit) → HasLess x us vs → HasLess x (units_after e us) (units_after e vs)
less_after x (ChangeEntry tid t file key before) us vs l = less_changed x tid t us vs (same_id x t) refl l
less_after x (PreparedEntry tid t) us vs l = less_prepared x t us vs (same_id x t) refl l
less_after x (SettledEntry tid t outcome moment) us vs l = less_settled x t us vs (same_id x t) refl l

few_less : (x : Id) (es : List JournalEntry) (us vs : List RecoveryUnit) → HasLess x us vs → AreFewOver us es → AreFewOver vs es
few_less x [] us vs l h = tt
few_less x (e ∷ es) us vs l h =
    let next = less_after x e us vs l in
    (less_few x (units_after e us) (units_after e vs) next h.0, few_less x es (units_after e us) (units_after e vs) next h.1)

-- Entries at the front that go.

few_dropped : (e : JournalEntry) (es : List JournalEntry) → AreFewOver [] (e ∷ es) → AreFewOver [] es
few_dropped (ChangeEntry tid t file key before) es h = few_less t es (with_one_change tid t []) [] (record { others = changed_without tid t []; often = omega arith; count = omega arith }) h.1
few_dropped (PreparedEntry tid t) es h = h.1
few_dropped (SettledEntry tid t outcome moment) es h = h.1

pub few_from : (us : List RecoveryUnit) (es : List JournalEntry) → AreFewOver [] es → AreFewOver [] (entries_from us es)
few_from us [] h = tt
few_from us (e ∷ es) h = cond_both (is_of_units us e) (e ∷ es) (entries_from us es) (AreFewOver []) (λ t. h) (λ t. few_from us es (few_dropped e es h))

-- The entries of a branch's changes.

-- a branch has so many changes more, each of which leaves few
pub few_entered : (tid serial : Id) (file : List ℕ) (es : List JournalEntry) (cs : List Change) → ((ds : List Change) → has_changes ds ≡ true → length ds ≤ length cs → AreFew (units_in (es ++ entries_for tid serial file ds))) → AreFewOver (units_in es) (entries_for tid serial file cs)
few_entered tid serial file es [] f = tt
few_entered tid serial file es (c ∷ cs) f =
    let e = ChangeEntry tid serial file c.key c.before in
    let last : AreFew (units_onto (units_in es) (entries_for tid serial file (c ∷ cs))) = subst AreFew (units_follow es (entries_for tid serial file (c ∷ cs))) (f (c ∷ cs) refl (omega arith)) in
    few_append (units_in es) (entries_for tid serial file cs) (e ∷ []) (few_entered tid serial file es cs (λ ds some less. f ds some (omega (arith, less))))
    (subst AreFew (onto_append (units_in es) (entries_for tid serial file cs) (e ∷ [])) last, tt)
