-- What keeps a file so that each recovery that is reached is to give records without a gap.
use Rattle.std.proofs.Common.{◌≡◌, ◌⊎◌, inl, inr, eq-eqb, eqb-true, ℕ, ◌+◌, List, [], ◌∷◌, length, map, Bool, true, false, refl, sym, ◌∙◌, ap, subst}
use Rattle.std.specs.Prelude.{◌&&◌, ◌==◌}
use Rattle.std.specs.FinMap.{entries}
use Rattle.vms_model.specs.Ids.{Id}
use Rattle.vms_model.specs.Keys.{End, Key, Number, Text}
use Rattle.unit_laws.specs.records_model.Records.{Records}
use Rattle.unit_laws.specs.records_model.History.{records}
use Rattle.unit_laws.proofs.Tests.{and_first, and_second}
use Rattle.world_laws.specs.recovery_model.File as recovery
use Rattle.world_laws.specs.recovery_model.File.{FileState}
use Rattle.world_laws.specs.recovery_model.Acts.{Act, Leads, MayDo, file_after, greatest_after}
use Rattle.world_laws.specs.recovery_model.Laws.{EachRecords, GivesMaps, Passes, RoomSuffices, StaysTold}
use Rattle.world_laws.specs.recovery_model.Opening.{as_found}
use Rattle.world_laws.specs.recovery_model.Recovery.{Backward, Covers, Forward, Way, records_by}
use Rattle.world_laws.proofs.recovery_model.MapLemmas.{created_maps_stay, maps_stay}
use Rattle.world_laws.proofs.recovery_model.Recoveries.{created_stays_told, found_stays_told}
use Rattle.world_laws.specs.run_model.World.{Indexed, Organization, Relative, Sequential, numbered, state_of}
use Rattle.recovery_laws.specs.Loading.{HasNoGap}
use Rattle.recovery_laws.specs.Mapped.{ActsKeepMapped, MappedGive, WasFoundSo, WasMadeSo}
use Rattle.recovery_laws.proofs.LedLemmas.{changes_lead, directs_lead, halves_lead, has_room, marks_lead, recovers_lead, saves_lead, settles_lead}
use Rattle.recovery_laws.proofs.PositionLemmas.{keys_length}

-- Whether records have no gap, as a test.

abbrev are_from : ℕ → List Key → Bool
are_from n [] = true
are_from n (Number k ∷ ks) = (k == n) && are_from (n + 1) ks
are_from n (Text t ∷ ks) = false
are_from n (End ∷ ks) = false

from_test : (n : ℕ) (ks : List Key) → are_from n ks ≡ true → ks ≡ numbered n (length ks)
from_test n [] e = refl
from_test n (Number k ∷ ks) e = ap (λ i. Number i ∷ ks) (eqb-true k n (and_first (k == n) (are_from (n + 1) ks) e)) ∙ ap (λ xs. Number n ∷ xs) (from_test (n + 1) ks (and_second (k == n) (are_from (n + 1) ks) e))
from_test n (Text t ∷ ks) e = let no : ⊥ = cc in absurd no
from_test n (End ∷ ks) e = let no : ⊥ = cc in absurd no

both_hold : (a b : Bool) → a ≡ true → b ≡ true → (a && b) ≡ true
both_hold true b p q = q
both_hold false b p q = p

to_test : (n : ℕ) (ks : List Key) → ks ≡ numbered n (length ks) → are_from n ks ≡ true
to_test n [] e = refl
to_test n (Number k ∷ ks) e =
    let same : Number k ≡ Number n = cc in
    let number : k ≡ n = cc in
    both_hold (k == n) (are_from (n + 1) ks) (eq-eqb k n number) (to_test (n + 1) ks (let rest : ks ≡ numbered (n + 1) (length ks) = cc in rest))
to_test n (Text t ∷ ks) e = let clash : Text t ≡ Number n = cc in let no : ⊥ = cc in absurd no
to_test n (End ∷ ks) e = let clash : End ≡ Number n = cc in let no : ⊥ = cc in absurd no

abbrev no_gap : Organization → Records → Bool
no_gap Sequential m = are_from 1 (map (λ e. e.0) (entries m))
no_gap (Relative greatest) m = true
no_gap (Indexed position size) m = true

passes : (o : Organization) (m : Records) → HasNoGap o m → Passes (no_gap o) m
passes Sequential m gaps = to_test 1 (map (λ e. e.0) (entries m)) (gaps ∙ ap (numbered 1) (sym (keys_length (entries m))))
passes (Relative greatest) m gaps = refl
passes (Indexed position size) m gaps = refl

passed : (o : Organization) (m : Records) → Passes (no_gap o) m → HasNoGap o m
passed Sequential m e = from_test 1 (map (λ e. e.0) (entries m)) e ∙ ap (numbered 1) (keys_length (entries m))
passed (Relative greatest) m e = tt
passed (Indexed position size) m e = tt

-- Ways of acts.

each_more : (P Q : Records → Type 0) → ((m : Records) → P m → Q m) → (may : Id → Bool) (acts : List Act) (g : ℕ) (f : FileState) (n : ℕ) (e : FileState) (l : Leads may acts g f n e) → EachRecords P may acts g f n e l → EachRecords Q may acts g f n e l
each_more P Q more may [] g f n e l h = more (records f.timeline.history) h
each_more P Q more may (a ∷ acts) g f n e l h = (more (records e.timeline.history) h.0, each_more P Q more may acts g f l.0 l.1 l.2 h.1)

last_records : (P : Records → Type 0) (may : Id → Bool) (acts : List Act) (g : ℕ) (f : FileState) (n : ℕ) (e : FileState) (l : Leads may acts g f n e) → EachRecords P may acts g f n e l → P (records e.timeline.history)
last_records P may [] g f n e l h = subst (λ (d : FileState). P (records d.timeline.history)) (sym l.1) h
last_records P may (a ∷ acts) g f n e l h = h.0

-- a recovery that the next run reaches is reached by this one
covers_before : (way : Way) (n : ℕ) (e : FileState) → Covers way (as_found n e) → Covers way e
covers_before (Forward until) n e c = c
covers_before (Backward until) n e c = c

next_given : (P : Records → Type 0) (n : ℕ) (e : FileState) → StaysTold n e → GivesMaps P e → GivesMaps P (as_found n e)
next_given P n e told h way c = let before = covers_before way n e c in subst P (sym (told way before).1) (h way before)

-- Files.

module _ (o : Organization) (may waits : Id → Bool) where
  abbrev Mapped : ℕ → FileState → Type 0
  Mapped g f = WasFoundSo o may waits g f ⊎ WasMadeSo o may g f

  one_more : (a : Act) (g : ℕ) (f : FileState) → MayDo may a g f → HasNoGap o (records (file_after a g f).timeline.history) → Mapped g f → Mapped (greatest_after a g) (file_after a g f)
  one_more a g f d has (inl x) = let w = x.found in inl (record {
    found = record { acts = a ∷ w.acts; moment = w.moment; first = w.first; opening = w.opening; commits = w.commits; leads = (g, f, w.leads, d, refl, refl) };
    each = (has, x.each);
    given = x.given;
  })
  one_more a g f d has (inr x) = let w = x.made in inr (record { made = record { acts = a ∷ w.acts; moment = w.moment; past = w.past; leads = (g, f, w.leads, d, refl, refl) }; each = (has, x.each) })

  stays : (g : ℕ) (f : FileState) → Mapped g f → HasNoGap o (records f.timeline.history)
  stays g f (inl x) = let w = x.found in last_records (HasNoGap o) may w.acts w.moment w.first g f w.leads x.each
  stays g f (inr x) = let w = x.made in last_records (HasNoGap o) may w.acts w.moment (recovery.created w.moment w.past) g f w.leads x.each

  room : (g : ℕ) (f : FileState) → Mapped g f → RoomSuffices f
  room g f (inl x) = has_room may waits g f (inl x.found)
  room g f (inr x) = has_room may waits g f (inr x.made)

  gives : (g : ℕ) (f : FileState) → Mapped g f → GivesMaps (HasNoGap o) f
  gives g f (inl x) way c = let w = x.found in passed o (records_by way f) (maps_stay (no_gap o) may waits w.acts w.moment w.first g f w.opening w.commits w.leads
      (each_more (HasNoGap o) (Passes (no_gap o)) (passes o) may w.acts w.moment w.first g f w.leads x.each) (λ v d. passes o (records_by v w.first) (x.given v d)) way c)
  gives g f (inr x) way c = let w = x.made in passed o (records_by way f) (created_maps_stay (no_gap o) may w.acts w.past w.moment g f w.leads
      (each_more (HasNoGap o) (Passes (no_gap o)) (passes o) may w.acts w.moment (recovery.created w.moment w.past) g f w.leads x.each) way c)

  stay_told : (g : ℕ) (f : FileState) → Mapped g f → StaysTold g f
  stay_told g f (inl x) = let w = x.found in found_stays_told may waits w.acts w.moment w.first g f w.opening w.commits w.leads
  stay_told g f (inr x) = let w = x.made in created_stays_told may w.acts w.past w.moment g f w.leads

pub acts_keep_mapped : ActsKeepMapped
acts_keep_mapped may waits = record {
  changes = λ g f. changes_lead may (Mapped f.organization may waits) (HasNoGap f.organization) (one_more f.organization may waits) (stays f.organization may waits) (room f.organization may waits) g f;
  directs = λ g f. directs_lead may (Mapped f.organization may waits) (HasNoGap f.organization) (one_more f.organization may waits) (stays f.organization may waits) (room f.organization may waits) g f;
  settles = λ g f. settles_lead may (Mapped f.organization may waits) (HasNoGap f.organization) (one_more f.organization may waits) (stays f.organization may waits) (room f.organization may waits) g f;
  halves = λ g f. halves_lead may (Mapped f.organization may waits) (HasNoGap f.organization) (one_more f.organization may waits) (stays f.organization may waits) (room f.organization may waits) g f;
  marks = λ g f. marks_lead may (Mapped f.organization may waits) (HasNoGap f.organization) (one_more f.organization may waits) (stays f.organization may waits) (room f.organization may waits) g f;
  saves = λ g f. saves_lead may (Mapped f.organization may waits) (HasNoGap f.organization) (one_more f.organization may waits) (stays f.organization may waits) (room f.organization may waits) g f;
  recovers = λ g f. recovers_lead may (Mapped f.organization may waits) (HasNoGap f.organization) (one_more f.organization may waits) (stays f.organization may waits) (room f.organization may waits) g f;
}

pub mapped_give : MappedGive
mapped_give may waits g f h = record {
  told = elim h [ inl x ↦ inl x.found | inr x ↦ inr x.made ];
  now = gives f.organization may waits g (state_of f) h;
  next = next_given (HasNoGap f.organization) g (state_of f) (stay_told f.organization may waits g (state_of f) h) (gives f.organization may waits g (state_of f) h);
}
