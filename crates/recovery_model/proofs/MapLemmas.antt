-- What a file's records have all the way, its recoveries have.
use Rattle.std.proofs.Common.{◌≡◌, ℕ, ◌<◌, ◌≤◌, List, [], ◌∷◌, Bool, true, false, Option, Some, None, refl, sym, ◌∙◌, ap, subst, arith}
use Rattle.std.specs.Prelude.{if◌then◌else◌, ◌&&◌, not, nat_lt, nat_le}
use Rattle.std.proofs.lemmas.Bool.{leb-true, le-ltb}
use Rattle.unit_laws.specs.vms_model.Ids.{Id}
use Rattle.unit_laws.specs.vms_model.Transactions.{Outcome}
use Rattle.unit_laws.specs.records_model.Records.{Records, Change}
use Rattle.unit_laws.specs.records_model.History.{records, changed_it, reached}
use Rattle.unit_laws.proofs.records_model.SlotLaws.{if_false}
use Rattle.unit_laws.proofs.Tests.{and_second}
use Rattle.recovery_model.specs.Journal.{Changed, Settled, is_commit}
use Rattle.recovery_model.specs.Timeline.{Timeline, records_at}
use Rattle.recovery_model.specs.File.{ImageJournal, Save, FileState, changed_file, half_aborted, recovered_file, rebased, renewed, renewed_if_on, IsCovering, created}
use Rattle.recovery_model.specs.Acts.{Act, Changes, Settles, HalfAborts, BeginsAfters, EndsAfters, BeginsBefores, EndsBefores, Saves, Recovers, file_after, MayDo, Leads}
use Rattle.recovery_model.specs.Recovery.{Forward, Backward, Refusal, NoJournal, TooEarly, PositionsMissing, MomentsMissing, first_of, refused_if, no_journal, no_save, too_early, positions_missing, Covers}
use Rattle.recovery_model.specs.Laws.{GivesMaps, EachRecords, Passes, MapsStay, CreatedMapsStay}
use Rattle.recovery_model.proofs.Covering.{unsettled, changed_now, settled_now, Sound, Reaches, SaveGives, Kept}
use Rattle.recovery_model.proofs.TimelineLemmas.{sound_settled, sound_rebased, records_late, records_settled}
use Rattle.recovery_model.proofs.FileLemmas.{settled_row, on_append, first_append, span_up, still, settled_is}
use Rattle.recovery_model.proofs.HalfLemmas.{half_at}
use Rattle.recovery_model.proofs.HoldLemmas.{Holds, acts_hold, found_holds, created_holds}
use Rattle.recovery_model.proofs.Recoveries.{reaches, covers, forward_parts, backward_parts}

-- all that recoveries reach has the property
pub record HasMaps (P : Records → Type 0) (f : FileState) : Type 0 where
  pub total : P (records f.timeline.history)
  pub by_save : (v : Save) (u : Option ℕ) → f.save ≡ Some v → f.ai.on ≡ true → IsCovering f.ai v → Reaches v.moment u → P (records_at f.timeline u)
  pub by_befores : (u : ℕ) → f.bi.on ≡ true → f.bi_since ≤ u → P (records_at f.timeline (Some u))

-- A change commits nothing.

same_at : (s : Id) (c : Change) (t : Timeline) (u : Option ℕ) → records_at (changed_now s c t) u ≡ records_at t u
same_at s c t None = refl
same_at s c t (Some u) = refl

changed_maps : (P : Records → Type 0) (tid s : Id) (c : Change) (f : FileState) → HasMaps P f → HasMaps P (changed_file tid s c f)
changed_maps P tid s c f w = record {
  total = w.total;
  by_save = λ v u e on cov r. subst P (sym (same_at s c f.timeline u))
      (w.by_save v u e (on_append tid (Changed s c.key c.after) f.ai f.ai.on refl on) (subst (λ x. x ≤ v.position) (first_append tid (Changed s c.key c.after) f.ai f.ai.on refl) cov) r);
  by_befores = λ u on l. w.by_befores u (on_append tid (Changed s c.key c.before) f.bi f.bi.on refl on) l;
}

-- Nor does an abort that was cut short.

half_maps : (P : Records → Type 0) (s : Id) (cs : List Change) (f : FileState) → HasMaps P f → HasMaps P (half_aborted s cs f)
half_maps P s cs f w = record {
  total = w.total;
  by_save = λ v u e on cov r. subst P (sym (half_at s cs f.timeline u)) (w.by_save v u e on cov r);
  by_befores = λ u on l. w.by_befores u on l;
}

-- From the greatest moment on there are the records alone.

from_now : (P : Records → Type 0) (g : ℕ) (t : Timeline) (u : Option ℕ) → Sound g t → Reaches g u → P (records t.history) → P (records_at t u)
from_now P g t None d r p = p
from_now P g t (Some u) d r p = subst P (sym (records_late g t u r d)) p

-- A commit leaves the records from its moment on, and those before as they were.

settled_map : (P : Records → Type 0) (g : ℕ) (h : Timeline) (s : Id) (outcome : Outcome) (t : ℕ) (u : Option ℕ) (b : Bool) → (is_commit outcome && reached u t) ≡ b → g < t → Sound g h →
    P (records_at h u) → P (records (settled_now s outcome t h).history) → P (records_at (settled_now s outcome t h) u)
settled_map P g h s outcome t None b e l d p q = q
settled_map P g h s outcome t (Some u) true e l d p q = from_now P t (settled_now s outcome t h) (Some u) (sound_settled g h s outcome t l d) (leb-true t u (and_second (is_commit outcome) (nat_le t u) e)) q
settled_map P g h s outcome t (Some u) false e l d p q =
    subst P (sym (records_settled h s outcome t (Some u) (let x = d.start in omega arith) ∙ if_false (is_commit outcome && nat_le t u) _ _ e)) p

settled_maps : (P : Records → Type 0) (g : ℕ) (tid s : Id) (outcome : Outcome) (t : ℕ) (f : FileState) (b : Bool) → g < t → Sound g f.timeline →
    P (records (if b then settled_row tid s outcome t f else f).timeline.history) → HasMaps P f → HasMaps P (if b then settled_row tid s outcome t f else f)
settled_maps P g tid s outcome t f true l d p w = record {
  total = p;
  by_save = λ v u e on cov r. settled_map P g f.timeline s outcome t u (is_commit outcome && reached u t) refl l d
      (w.by_save v u e (on_append tid (Settled s outcome t) f.ai f.ai.on refl on) (subst (λ x. x ≤ v.position) (first_append tid (Settled s outcome t) f.ai f.ai.on refl) cov) r) p;
  by_befores = λ u on m. settled_map P g f.timeline s outcome t (Some u) (is_commit outcome && reached (Some u) t) refl l d (w.by_befores u (on_append tid (Settled s outcome t) f.bi f.bi.on refl on) m) p;
}
settled_maps P g tid s outcome t f false l d p w = w

-- What is recovered is reached from now on.

not_covered : (j : ImageJournal) (v : Save) (on : Bool) → j.on ≡ on → v.position ≤ j.end → (renewed_if_on j).on ≡ true → IsCovering (renewed_if_on j) v → ⊥
not_covered j v true on l o cov = let c : IsCovering (renewed j.start j.blocks j) v = rw on at cov in let x = span_up j.end in omega arith
not_covered j v false on l o cov = let same : (renewed_if_on j).on ≡ j.on = rw on refl in let no : ⊥ = cc in no

position_of : (may : Id → Bool) (g : ℕ) (j : ImageJournal) (sv : Option Save) (h : Timeline) (v : Save) → sv ≡ Some v → SaveGives may g j sv h → v.position ≤ j.end
position_of may g j sv h v e w = (subst (λ x. SaveGives may g j x h) e w).0

since_now : (f : FileState) (g u : ℕ) (on : Bool) → f.bi.on ≡ on → (renewed_if_on f.bi).on ≡ true → (if f.bi.on then g else f.bi_since) ≤ u → g ≤ u
since_now f g u true on o l = rw on at l
since_now f g u false on o l = let same : (renewed_if_on f.bi).on ≡ f.bi.on = rw on refl in let no : ⊥ = cc in absurd no

recovered_maps : (P : Records → Type 0) (may : Id → Bool) (m : Records) (g : ℕ) (f : FileState) → ((s : Id) → unsettled f.timeline.history.live s ≡ []) → Kept may g f → P m → HasMaps P (recovered_file m g f)
recovered_maps P may m g f n k p = record {
  total = p;
  by_save = λ v u e on cov r. absurd (not_covered f.ai v f.ai.on refl (position_of may g f.ai f.save f.timeline v e k.save) on cov);
  by_befores = λ u on l. from_now P g (rebased m g f.timeline) (Some u) (sound_rebased g f.timeline m n k.sound) (since_now f g u f.bi.on refl on l) p;
}

-- Acts.

moment_of : (g : ℕ) (v w : Save) → Some v ≡ Some w → v.moment ≡ w.moment
moment_of g v w e = ap (λ (o : Option Save). elim o [ Some x ↦ x.moment | None ↦ g ]) e

act_maps : (P : Records → Type 0) (may : Id → Bool) (a : Act) (g : ℕ) (f : FileState) → MayDo may a g f → Kept may g f → P (records (file_after a g f).timeline.history) → HasMaps P f → HasMaps P (file_after a g f)
act_maps P may (Changes tid s c) g f m k p w = changed_maps P tid s c f w
act_maps P may (Settles tid s outcome t) g f m k p w =
    let is = settled_is tid s outcome t f (changed_it f.timeline.history s) refl in
    subst (HasMaps P) (sym is) (settled_maps P g tid s outcome t f (changed_it f.timeline.history s) m.0 k.sound (subst (λ x. P (records x.timeline.history)) is p) w)
act_maps P may (HalfAborts s cs) g f m k p w = half_maps P s cs f w
act_maps P may (BeginsAfters start blocks) g f m k p w = record {
  total = w.total;
  by_save = λ v u e on cov r. let l = position_of may g f.ai f.save f.timeline v e k.save in let x = span_up f.ai.end in absurd (omega arith);
  by_befores = w.by_befores;
}
act_maps P may EndsAfters g f m k p w = record { total = w.total; by_save = λ v u e on cov r. let no : ⊥ = cc in absurd no; by_befores = w.by_befores }
act_maps P may (BeginsBefores start blocks) g f m k p w = record { total = w.total; by_save = w.by_save; by_befores = λ u on l. from_now P g f.timeline (Some u) k.sound l w.total }
act_maps P may EndsBefores g f m k p w = record { total = w.total; by_save = w.by_save; by_befores = λ u on l. let no : ⊥ = cc in absurd no }
act_maps P may (Saves start buckets) g f m k p w = record {
  total = w.total;
  by_save = λ v u e on cov r. from_now P g f.timeline u k.sound (subst (λ x. Reaches x u) (sym (moment_of g _ v e)) r) w.total;
  by_befores = w.by_befores;
}
act_maps P may (Recovers x) g f m k p w = recovered_maps P may x g f (still f m) k p

acts_maps : (P : Records → Type 0) (may : Id → Bool) (acts : List Act) (g : ℕ) (f : FileState) (n : ℕ) (e : FileState) → (l : Leads may acts g f n e) → EachRecords P may acts g f n e l → Holds may g f → HasMaps P f → HasMaps P e
acts_maps P may [] g f n e l p k w = subst (HasMaps P) (sym l.1) w
acts_maps P may (a ∷ acts) g f n e l p k w =
    subst (HasMaps P) (sym l.5) (act_maps P may a l.0 l.1 l.3 (acts_hold may acts g f l.0 l.1 l.2 k).kept (subst (λ x. P (records x.timeline.history)) l.5 p.0) (acts_maps P may acts g f l.0 l.1 l.2 p.1 k w))

first_records : (P : Records → Type 0) (may : Id → Bool) (acts : List Act) (g : ℕ) (f : FileState) (n : ℕ) (e : FileState) → (l : Leads may acts g f n e) → EachRecords P may acts g f n e l → P (records f.timeline.history)
first_records P may [] g f n e l p = p
first_records P may (a ∷ acts) g f n e l p = first_records P may acts g f l.0 l.1 l.2 p.1

-- What is reached is what is not refused.

none_first : (a b : Option Refusal) → a ≡ None → b ≡ None → first_of a b ≡ None
none_first a b p q = ap (λ x. first_of x b) p ∙ q

not_refused : (b : Bool) (r : Refusal) → b ≡ false → refused_if b r ≡ None
not_refused b r e = ap (λ x. refused_if x r) e

journal_there : (j : ImageJournal) → j.on ≡ true → no_journal j ≡ None
journal_there j on = ap (λ x. refused_if (not x) NoJournal) on

not_early : (u : Option ℕ) (v : Save) → Reaches v.moment u → too_early u (Some v) ≡ None
not_early None v r = refl
not_early (Some u) v r = not_refused (nat_lt u v.moment) (TooEarly u v.moment) (le-ltb u v.moment r)

forward_free : (f : FileState) (v : Save) (u : Option ℕ) → f.save ≡ Some v → f.ai.on ≡ true → IsCovering f.ai v → Reaches v.moment u → Covers (Forward u) f
forward_free f v u e on cov r =
    none_first (no_journal f.ai) _ (journal_there f.ai on) (none_first (no_save f.save) _ (ap no_save e) (none_first (too_early u f.save) (positions_missing f.ai f.save) (ap (too_early u) e ∙ not_early u v r)
    (ap (positions_missing f.ai) e ∙ not_refused (nat_lt v.position f.ai.first) (PositionsMissing v.position f.ai.first) (le-ltb v.position f.ai.first cov))))

backward_free : (f : FileState) (u : ℕ) → f.bi.on ≡ true → f.bi_since ≤ u → Covers (Backward u) f
backward_free f u on l = none_first (no_journal f.bi) _ (journal_there f.bi on) (not_refused (nat_lt u f.bi_since) (MomentsMissing u f.bi_since) (le-ltb u f.bi_since l))

found_maps : (P : Records → Type 0) (f : FileState) → P (records f.timeline.history) → GivesMaps P f → HasMaps P f
found_maps P f p w = record {
  total = p;
  by_save = λ v u e on cov r. w (Forward u) (forward_free f v u e on cov r);
  by_befores = λ u on l. w (Backward u) (backward_free f u on l);
}

by_known : (P : Records → Type 0) (f : FileState) (until : Option ℕ) (sv : Option Save) → f.save ≡ sv → HasMaps P f → f.ai.on ≡ true → no_save sv ≡ None → too_early until sv ≡ None → positions_missing f.ai sv ≡ None → P (records_at f.timeline until)
by_known P f until None e w on a b c = let no : ⊥ = cc in absurd no
by_known P f until (Some v) e w on a b c = w.by_save v until e on (covers f.ai v c) (reaches until v b)

gives_maps : (P : Records → Type 0) (f : FileState) → HasMaps P f → GivesMaps P f
gives_maps P f w (Forward until) e =
    let x = forward_parts f until e in
    by_known P f until f.save refl w x.0 x.1 x.2 x.3
gives_maps P f w (Backward until) e =
    let x = backward_parts f until e in
    w.by_befores until x.0 x.1

-- The laws.

pub maps_stay : MapsStay
maps_stay test may waits acts g f n e a c l p w =
    let k = found_holds may waits g f c a in
    gives_maps (Passes test) e (acts_maps (Passes test) may acts g f n e l p k (found_maps (Passes test) f (first_records (Passes test) may acts g f n e l p) w))

nothing_reached : (P : Records → Type 0) (g : ℕ) (past : ℕ → Records) → P (records (created g past).timeline.history) → HasMaps P (created g past)
nothing_reached P g past p = record { total = p; by_save = λ v u e on cov r. let no : ⊥ = cc in absurd no; by_befores = λ u on l. let no : ⊥ = cc in absurd no }

pub created_maps_stay : CreatedMapsStay
created_maps_stay test may acts past g n e l p =
    let k = created_holds may g past in
    gives_maps (Passes test) e (acts_maps (Passes test) may acts g (created g past) n e l p k (nothing_reached (Passes test) g past (first_records (Passes test) may acts g (created g past) n e l p)))
