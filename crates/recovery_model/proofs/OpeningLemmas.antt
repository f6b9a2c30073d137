-- A file that a run finds has what is kept.
use Rattle.unit_laws.specs.vms_model.Ids.{Id}
use Rattle.unit_laws.specs.vms_model.Keys.{Key}
use Rattle.unit_laws.specs.records_model.Records.{Records, Change, Found, applied}
use Rattle.unit_laws.specs.records_model.History.{reached, LiveChanges, records, left_by}
use Rattle.unit_laws.proofs.records_model.RecordsLemmas.{set_back}
use Rattle.unit_laws.specs.Units.{SerialsDiffer}
use Rattle.recovery_model.specs.Images.{Image, afters, befores, touches, newest, keys_of}
use Rattle.recovery_model.specs.Journal.{Entry, Changed, Settled, Below, Locked, beyond, chosen, images_by, rolled_forward, rolled_back}
use Rattle.recovery_model.specs.Timeline.{records_at}
use Rattle.recovery_model.specs.File.{ImageJournal, Save, FileState, all_of, since, IsCovering}
use Rattle.recovery_model.specs.Opening.{past_of, EachKeyIsOf, TellsSinceSave, TellsFound, IsLawful, IsOpening, MayCommit}
use Rattle.std.proofs.Common.{◌≡◌, ℕ, ◌≤◌, List, [], ◌∷◌, Bool, true, false, Option, Some, None, refl, sym, ◌∙◌, ap, subst, inl, inr, ◌⊎◌, arith}
use Rattle.std.specs.Prelude.{if◌then◌else◌, ◌&&◌, nat_le, nat_lt}
use Rattle.std.proofs.lemmas.Bool.{leb-true, le-leb, ltb-false, le-ltb}
use Rattle.recovery_model.proofs.Images.{same, sets, unsets}
use Rattle.recovery_model.proofs.Covering.{unsettled, Apart, TiesForward, TiesBackward, Reaches, SaveGives, Ascends, Kept}
use Rattle.recovery_model.proofs.PositionLemmas.{ascends_in, before_below}
use Rattle.recovery_model.proofs.ImageLemmas.{changes-key, touches-befores}
use Rattle.recovery_model.proofs.OldestLemmas.{forward_tie}
use Rattle.recovery_model.proofs.RollLemmas.{forward_same, backward_none}
use Rattle.recovery_model.proofs.TieLemmas.{chosen_none}
use Rattle.recovery_model.proofs.LockedLemmas.{on_top_from_locked}

-- a file that a run finds
abbrev pub opened : ℕ → Records → List LiveChanges → ImageJournal → ImageJournal → ℕ → Option Save → FileState
opened g total live ai bi bi_since save = record {
  timeline = record { history = record { base = total; moment = g; settled = []; live = live }; past = past_of ai save (all_of bi.entries) total };
  ai = ai;
  bi = bi;
  bi_since = bi_since;
  save = save;
}

-- the two journals give one map, and the journal of after images leads to what has been committed
abbrev pub SaveAgrees : (Id → Bool) → ℕ → Records → List LiveChanges → ImageJournal → ImageJournal → ℕ → Option Save → Type 0
SaveAgrees may g total live ai bi bi_since None = Unit {0}
SaveAgrees may g total live ai bi bi_since (Some v) = (v.position ≤ ai.end) × (ai.on ≡ true → IsCovering ai v →
    (rolled_forward None (since v.position ai.entries) v.records ≡ total) ×
    ((u : ℕ) → bi.on ≡ true → v.moment ≤ u → bi_since ≤ u → rolled_forward (Some u) (since v.position ai.entries) v.records ≡ rolled_back u (all_of bi.entries) total) ×
    Below g (since v.position ai.entries) × TiesForward may (since v.position ai.entries) (unsettled live))

pub record Agrees (may : Id → Bool) (g : ℕ) (total : Records) (live : List LiveChanges) (ai bi : ImageJournal) (bi_since : ℕ) (save : Option Save) : Type 0 where
  pub found : (s : Id) → Found (unsettled live s) total
  pub apart : Apart (unsettled live)
  pub one : SerialsDiffer live
  pub ai_ascends : Ascends ai.end ai.entries
  pub bi_ascends : Ascends bi.end bi.entries
  pub bi_low : bi.on ≡ true → Below g (all_of bi.entries)
  pub bi_ties : bi.on ≡ true → TiesBackward (all_of bi.entries) (unsettled live) total
  pub save_agrees : SaveAgrees may g total live ai bi bi_since save

-- from the greatest moment on nothing is left out
pub within_late : (g u : ℕ) → g ≤ u → (es : List Entry) → Below g es → (s : Id) → chosen (reached (Some u)) es s ≡ chosen (reached None) es s
within_late g u l [] h s = refl
within_late g u l (Changed r k v ∷ es) h s = within_late g u l es h s
within_late g u l (Settled r c t ∷ es) h s = rw (le-leb t u (omega (arith, h.0)), within_late g u l es h.1 s) refl

opening_forward : (may : Id → Bool) (g : ℕ) (total : Records) (live : List LiveChanges) (ai bi : ImageJournal) (bi_since : ℕ) (v : Save) (u : ℕ) (late : Bool) → nat_lt u g ≡ late → ai.on ≡ true → IsCovering ai v → v.moment ≤ u →
    (rolled_forward None (since v.position ai.entries) v.records ≡ total) → Below g (since v.position ai.entries) →
    rolled_forward (Some u) (since v.position ai.entries) v.records ≡ records_at (opened g total live ai bi bi_since (Some v)).timeline (Some u)
opening_forward may g total live ai bi bi_since v u true e on cov l ends low = rw (e, on, le-leb ai.first v.position cov, le-leb v.moment u l) refl
opening_forward may g total live ai bi bi_since v u false e on cov l ends low =
    rw e (forward_same (chosen (reached (Some u)) (since v.position ai.entries)) (chosen (reached None) (since v.position ai.entries)) (within_late g u (ltb-false u g e) (since v.position ai.entries) low) (since v.position ai.entries) v.records ∙ ends)

forward_gives : (may : Id → Bool) (g : ℕ) (total : Records) (live : List LiveChanges) (ai bi : ImageJournal) (bi_since : ℕ) (v : Save) (u : Option ℕ) → ai.on ≡ true → IsCovering ai v → Reaches v.moment u →
    (rolled_forward None (since v.position ai.entries) v.records ≡ total) → Below g (since v.position ai.entries) →
    rolled_forward u (since v.position ai.entries) v.records ≡ records_at (opened g total live ai bi bi_since (Some v)).timeline u
forward_gives may g total live ai bi bi_since v None on cov l ends low = ends
forward_gives may g total live ai bi bi_since v (Some u) on cov l ends low = opening_forward may g total live ai bi bi_since v u (nat_lt u g) refl on cov l ends low

opening_save : (may : Id → Bool) (g : ℕ) (total : Records) (live : List LiveChanges) (ai bi : ImageJournal) (bi_since : ℕ) (save : Option Save) → SaveAgrees may g total live ai bi bi_since save → SaveGives may g ai save (opened g total live ai bi bi_since save).timeline
opening_save may g total live ai bi bi_since None a = tt
opening_save may g total live ai bi bi_since (Some v) a = (
  a.0,
  λ on cov. let x = a.1 on cov in record {
    ties = x.3;
    low = x.2;
    gives = λ u l. forward_gives may g total live ai bi bi_since v u on cov l x.0 x.2;
  },
)

-- whichever journal tells the past, BACKWARD tells the same
by_both : (a b c : Bool) (x y : Records) → (a ≡ true → b ≡ true → c ≡ true → x ≡ y) → (if a && (b && c) then x else y) ≡ y
by_both true true true x y h = h refl refl refl
by_both true true false x y h = refl
by_both true false c x y h = refl
by_both false b c x y h = refl

past_back : (may : Id → Bool) (g : ℕ) (total : Records) (live : List LiveChanges) (ai bi : ImageJournal) (bi_since : ℕ) (save : Option Save) (u : ℕ) → SaveAgrees may g total live ai bi bi_since save → bi.on ≡ true → bi_since ≤ u → past_of ai save (all_of bi.entries) total u ≡ rolled_back u (all_of bi.entries) total
past_back may g total live ai bi bi_since None u a on l = refl
past_back may g total live ai bi bi_since (Some v) u a on l = by_both ai.on (nat_le ai.first v.position) (nat_le v.moment u) _ _ (λ x y z. (a.1 x (leb-true ai.first v.position y)).1 u on (leb-true v.moment u z) l)

opening_back : (may : Id → Bool) (g : ℕ) (total : Records) (live : List LiveChanges) (ai bi : ImageJournal) (bi_since : ℕ) (save : Option Save) (u : ℕ) (late : Bool) → nat_lt u g ≡ late → SaveAgrees may g total live ai bi bi_since save → bi.on ≡ true → bi_since ≤ u → Below g (all_of bi.entries) →
    rolled_back u (all_of bi.entries) total ≡ records_at (opened g total live ai bi bi_since save).timeline (Some u)
opening_back may g total live ai bi bi_since save u true e a on l low = rw e (sym (past_back may g total live ai bi bi_since save u a on l))
opening_back may g total live ai bi bi_since save u false e a on l low =
    let x : g ≤ u = ltb-false u g e in
    rw e (backward_none (chosen (beyond u) (all_of bi.entries)) (chosen_none (beyond u) g (λ t y. le-ltb u t (omega arith)) (all_of bi.entries) low) (all_of bi.entries) total)

pub opening_keeps : (may : Id → Bool) (g : ℕ) (total : Records) (live : List LiveChanges) (ai bi : ImageJournal) (bi_since : ℕ) (save : Option Save) → Agrees may g total live ai bi bi_since save → Kept may g (opened g total live ai bi bi_since save)
opening_keeps may g total live ai bi bi_since save a = record {
  sound = record { start = omega arith; moments = tt; one = a.one; found = a.found; apart = a.apart };
  ai_ascends = a.ai_ascends;
  bi_ascends = a.bi_ascends;
  save = opening_save may g total live ai bi bi_since save a.save_agrees;
  bi = λ on. record { ties = a.bi_ties on; low = a.bi_low on; gives = λ u l. opening_back may g total live ai bi bi_since save u (nat_lt u g) refl a.save_agrees on l (a.bi_low on) };
}

-- Its journals in the words of an opening.

-- whether images touch a key is told by their keys
abbrev among_keys : Key → List Key → Bool
among_keys q [] = false
among_keys q (k ∷ ks) = if same q k then true else among_keys q ks

touches-keys : (q : Key) (is : List Image) → touches q is ≡ among_keys q (keys_of is)
touches-keys q [] = refl
touches-keys q (i ∷ is) = ap (λ x. if same q i.0 then true else x) (touches-keys q is)

pub same_touches : (is js : List Image) (q : Key) → keys_of is ≡ keys_of js → touches q is ≡ touches q js
same_touches is js q e = touches-keys q is ∙ ap (among_keys q) e ∙ sym (touches-keys q js)

no_keys : (is : List Image) → keys_of is ≡ [] → is ≡ []
no_keys [] e = refl
no_keys (i ∷ is) e = let no : ⊥ = cc in absurd no

commits_as : (waits : Id → Bool) (live : Id → List Change) (es : List Entry) (s : Id) (m : Records) → keys_of (images_by s es) ≡ keys_of (afters (live s)) →
    (waits s ≡ true → (q : Key) → touches q (images_by s es) ≡ true → newest q (images_by s es) ≡ newest q (afters (live s))) → (waits s ≡ true) ⊎ (live s ≡ []) → sets (images_by s es) m ≡ applied (live s) m
commits_as waits live es s m keys last (inl w) = forward_tie (images_by s es) (live s) m (λ q. same_touches (images_by s es) (afters (live s)) q keys) (last w)
commits_as waits live es s m keys last (inr none) =
    let bare : images_by s es ≡ [] = no_keys (images_by s es) (keys ∙ ap (λ x. keys_of (afters x)) none) in
    ap (λ x. sets x m) bare ∙ ap (λ x. applied x m) (sym none)

after_ties : (may waits : Id → Bool) (g : ℕ) (total : Records) (live : List LiveChanges) (es : List Entry) (v : Save) → ((s : Id) → may s ≡ true → (waits s ≡ true) ⊎ (unsettled live s ≡ [])) → TellsSinceSave waits g total live es v → TiesForward may es (unsettled live)
after_ties may waits g total live es v n t = record {
  keys = λ s k u. same_touches (images_by s es) (afters (unsettled live s)) k (t.same s u);
  stands = λ s u. on_top_from_locked es s t.locked u;
  holds = λ s m u y. commits_as waits (unsettled live) es s m (t.same s u) (λ w q. t.last s q u w) (n s y);
}

-- what changes found, set from the newest on, takes them back
taken_back : (cs : List Change) (m : Records) → Found cs m → unsets (befores cs) (applied cs m) ≡ m
taken_back [] m h = refl
taken_back (c ∷ cs) m h = rw (h.0, set_back (applied cs m) c.key c.after) (taken_back cs m h.1)

before_ties : (total : Records) (live : List LiveChanges) (es : List Entry) → ((s : Id) → Found (unsettled live s) total) → Locked es → TellsFound live es → TiesBackward es (unsettled live) total
before_ties total live es found locked t = record {
  keys = λ s k u. ap (touches k) (t s u) ∙ touches-befores k (unsettled live s);
  stands = λ s u. on_top_from_locked es s locked u;
  holds = λ s u. ap (λ x. unsets x (applied (unsettled live s) total)) (t s u) ∙ taken_back (unsettled live s) total (found s);
}

-- Keys of branches, in the words of recovery units.

pub apart_in : (live : List LiveChanges) → EachKeyIsOf live → Apart (unsettled live)
apart_in live h k r s x y = h k r s (sym (changes-key k (unsettled live r)) ∙ x) (sym (changes-key k (unsettled live s)) ∙ y)

pub apart_out : (live : List LiveChanges) → Apart (unsettled live) → EachKeyIsOf live
apart_out live h k r s x y = h k r s (changes-key k (unsettled live r) ∙ x) (changes-key k (unsettled live s) ∙ y)

save_lawful : (may waits : Id → Bool) (g : ℕ) (f : FileState) (save : Option Save) → f.save ≡ save → MayCommit may waits f → IsLawful waits g f →
    SaveAgrees may g (records f.timeline.history) f.timeline.history.live f.ai f.bi f.bi_since save
save_lawful may waits g f None e n w = tt
save_lawful may waits g f (Some v) e n w = (
  (w.saved v e).position,
  λ on cov. let x = w.by_save v e on cov in
      (x.ends, λ u back l k. w.both v u e on cov back l k, x.low, after_ties may waits g (records f.timeline.history) f.timeline.history.live (since v.position f.ai.entries) v n x),
)

lawful : (may waits : Id → Bool) (g : ℕ) (f : FileState) → MayCommit may waits f → IsLawful waits g f → Agrees may g (records f.timeline.history) f.timeline.history.live f.ai f.bi f.bi_since f.save
lawful may waits g f n w = record {
  found = w.found;
  apart = apart_in f.timeline.history.live w.apart;
  one = w.one;
  ai_ascends = ascends_in f.ai w.ai_order;
  bi_ascends = ascends_in f.bi w.bi_order;
  bi_low = λ on. before_below g (all_of f.bi.entries) (w.bi_branches on).rises;
  bi_ties = λ on. before_ties (records f.timeline.history) f.timeline.history.live (all_of f.bi.entries) w.found (w.bi_branches on).locked (w.bi_found on);
  save_agrees = save_lawful may waits g f f.save refl n w;
}

opening_is : (waits : Id → Bool) (g : ℕ) (f : FileState) → IsOpening waits g f → opened g f.timeline.history.base f.timeline.history.live f.ai f.bi f.bi_since f.save ≡ f
opening_is waits g f a = λ i. record {
  timeline = record { history = record { base = f.timeline.history.base; moment = sym a.moment i; settled = sym a.settled i; live = f.timeline.history.live }; past = sym a.past i };
  ai = f.ai;
  bi = f.bi;
  bi_since = f.bi_since;
  save = f.save;
}

base_is : (waits : Id → Bool) (g : ℕ) (f : FileState) → IsOpening waits g f → records f.timeline.history ≡ f.timeline.history.base
base_is waits g f a = ap (λ ss. left_by None ss f.timeline.history.base) a.settled

-- A file that a run finds has what is kept.
pub found_keeps : (may waits : Id → Bool) (g : ℕ) (f : FileState) → MayCommit may waits f → IsOpening waits g f → Kept may g f
found_keeps may waits g f n a =
    subst (Kept may g) (opening_is waits g f a) (opening_keeps may g f.timeline.history.base f.timeline.history.live f.ai f.bi f.bi_since f.save
    (subst (λ total. Agrees may g total f.timeline.history.live f.ai f.bi f.bi_since f.save) (base_is waits g f a) (lawful may waits g f n a.lawful)))
